-- AND, exclusive OR and OR. Source: document 01, "Arithmetic points", and for AC after AND change request W2.
-- Cited by `alu::logic`.
use Rattle.std.specs.Prelude.{ℕ, ◌/◌, ◌%◌, Bool, false, ◌||◌, ◌==◌, bit_and, bit_or, bit_xor}
use Rattle.alu.specs.declared.flags.Flagged.{Flagged}
use Rattle.alu.specs.Flags.{result_of}

-- AC after AND of a and b: "the OR of bit 3 of both operands"
unfoldable pub and_carry_of : ℕ → ℕ → Bool
and_carry_of a b = a / 8 % 2 == 1 || b / 8 % 2 == 1

-- ANA of a and b: CY is cleared
unfoldable pub ana_of : ℕ → ℕ → Flagged
ana_of a b = result_of (bit_and a b) (and_carry_of a b) false

-- XRA and ORA of a and b: CY and AC are cleared
unfoldable pub xra_of : ℕ → ℕ → Flagged
xra_of a b = result_of (bit_xor a b) false false

unfoldable pub ora_of : ℕ → ℕ → Flagged
ora_of a b = result_of (bit_or a b) false false
