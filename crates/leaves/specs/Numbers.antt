-- Answers of `alu` and `opcodes` as plain numbers, for callers in C and Rust. Cited by `leaves`.
use Rattle.std.specs.Prelude.{ℕ, ◌+◌, ◌*◌}
use Rattle.alu.specs.declared.flags.Flagged.{Flagged}
use Rattle.alu.specs.declared.words.Sum16.{Sum16}
use Rattle.alu.specs.Flags.{bit_of, flag_byte_of, flags_of}
use Rattle.alu.specs.Sums.{inr_of, dcr_of}
use Rattle.alu.specs.Words.{dad_of}
use Rattle.alu.specs.Groups.{arithmetic_of, accumulator_of}
use Rattle.opcodes.specs.declared.cycle.Acknowledge.TheVariants.{None}
use Rattle.opcodes.specs.Kinds.{kind_of}

-- the byte of x and its flags as one number: the byte, and 256 times the flag byte
unfoldable pub flagged_number : Flagged → ℕ
flagged_number x = x.value + 256 * flag_byte_of x.flags

-- the operation y of ADD to CMP on a and b, with the CY of the flag byte f
unfoldable pub leaf_arithmetic_of : ℕ → ℕ → ℕ → ℕ → ℕ
leaf_arithmetic_of y a b f = flagged_number (arithmetic_of y a b (flags_of f).cy)

-- the operation y of RLC to CMC on a, with the flags of the flag byte f
unfoldable pub leaf_accumulator_of : ℕ → ℕ → ℕ → ℕ
leaf_accumulator_of y a f = flagged_number (accumulator_of y a (flags_of f))

-- INR and DCR of v, with the CY of the flag byte f
unfoldable pub leaf_inr_of : ℕ → ℕ → ℕ
leaf_inr_of v f = flagged_number (inr_of v (flags_of f).cy)

unfoldable pub leaf_dcr_of : ℕ → ℕ → ℕ
leaf_dcr_of v f = flagged_number (dcr_of v (flags_of f).cy)

-- the 16-bit sum s and its carry as one number: the sum, and 65,536 times the carry
abbrev pub whole_of : Sum16 → ℕ
whole_of s = s.value + 65536 * bit_of s.cy

-- DAD of the pairs h and x
unfoldable pub leaf_dad_of : ℕ → ℕ → ℕ
leaf_dad_of h x = whole_of (dad_of h x)

-- the kind of the cycle with this code, outside an acknowledge
unfoldable pub leaf_kind_of : ℕ → ℕ
leaf_kind_of code = kind_of code None
