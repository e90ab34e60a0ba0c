-- Rotates, complement and carry. Source: Intel's 8080 manual: the rotates, STC and CMC change CY only, CMA no flag.
-- Cited by `alu::accumulator`.
use Rattle.std.specs.Prelude.{ℕ, ◌+◌, ◌-◌, ◌*◌, ◌/◌, ◌%◌, Bool, true, not, ◌==◌, nat_le}
use Rattle.alu.specs.declared.flags.Flags.{Flags}
use Rattle.alu.specs.declared.flags.Flagged.{Flagged}
use Rattle.alu.specs.Flags.{bit_of, with_cy}

-- the byte v, with the flags f but for CY
abbrev pub rotated : ℕ → Bool → Flags → Flagged
rotated v cy f = record { value = v; flags = with_cy cy f }

-- bit 7 and bit 0 of a
abbrev pub bit7 : ℕ → Bool
bit7 a = nat_le 128 a

abbrev pub bit0 : ℕ → Bool
bit0 a = a % 2 == 1

-- RLC, RRC: the bit that leaves comes in at the other end, and into CY
unfoldable pub rlc_of : ℕ → Flags → Flagged
rlc_of a f = rotated (a % 128 * 2 + a / 128) (bit7 a) f

unfoldable pub rrc_of : ℕ → Flags → Flagged
rrc_of a f = rotated (a / 2 + a % 2 * 128) (bit0 a) f

-- RAL, RAR: CY comes in, and the bit that leaves goes into CY
unfoldable pub ral_of : ℕ → Flags → Flagged
ral_of a f = rotated (a % 128 * 2 + bit_of f.cy) (bit7 a) f

unfoldable pub rar_of : ℕ → Flags → Flagged
rar_of a f = rotated (a / 2 + bit_of f.cy * 128) (bit0 a) f

-- CMA
unfoldable pub cma_of : ℕ → Flags → Flagged
cma_of a f = record { value = 255 - a; flags = f }

-- STC, CMC
unfoldable pub stc_of : ℕ → Flags → Flagged
stc_of a f = rotated a true f

unfoldable pub cmc_of : ℕ → Flags → Flagged
cmc_of a f = rotated a (not f.cy) f
