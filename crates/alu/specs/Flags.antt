-- The flags and their byte. Source: document 01, "The machine". Cited by `alu::flags` and everything above.
use Rattle.std.specs.Prelude.{ℕ, ◌+◌, ◌*◌, ◌/◌, ◌%◌, Bool, true, false, ◌==◌, nat_le}
use Rattle.alu.specs.declared.flags.Flags.{Flags}
use Rattle.alu.specs.declared.flags.Flagged.{Flagged}

-- a flag as a number
abbrev pub bit_of : Bool → ℕ
bit_of true = 1
bit_of false = 0

-- how many of the eight bits of v are one
abbrev pub ones_of : ℕ → ℕ
ones_of v = v % 2 + v / 2 % 2 + v / 4 % 2 + v / 8 % 2 + v / 16 % 2 + v / 32 % 2 + v / 64 % 2 + v / 128 % 2

-- P: the number of ones is even
unfoldable pub parity_of : ℕ → Bool
parity_of v = ones_of v % 2 == 0

-- the byte v with S its bit 7, Z whether it is 0, P its parity, and a given AC and CY
unfoldable pub result_of : ℕ → Bool → Bool → Flagged
result_of v ac cy =
    record { value = v; flags = record { s = nat_le 128 v; z = (v == 0); ac = ac; p = parity_of v; cy = cy } }

-- the flags f with another CY
unfoldable pub with_cy : Bool → Flags → Flags
with_cy cy f = record { s = f.s; z = f.z; ac = f.ac; p = f.p; cy = cy }

-- "Flag byte, bits 7 to 0: S, Z, 0, AC, 0, P, 1, CY"
unfoldable pub flag_byte_of : Flags → ℕ
flag_byte_of f = 128 * bit_of f.s + 64 * bit_of f.z + 16 * bit_of f.ac + 4 * bit_of f.p + 2 + bit_of f.cy

-- the flags in the byte v; its fixed bits do not count
unfoldable pub flags_of : ℕ → Flags
flags_of v =
    record { s = (v / 128 % 2 == 1); z = (v / 64 % 2 == 1); ac = (v / 16 % 2 == 1); p = (v / 4 % 2 == 1); cy = (v % 2 == 1) }
