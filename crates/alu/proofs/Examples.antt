-- Worked examples, so that the definitions are seen to say what is meant: document 01's bench cards for bytes and pairs, and
-- the arithmetic vectors of docs/DECISIONS.md. Assumes nothing.
use Rattle.std.proofs.Common.{◌≡◌, ℕ, Bool, true, false, ◌&&◌, T, eqb, List, [], ◌∷◌, refl}
use Rattle.alu.specs.declared.flags.Flagged.{Flagged}
use Rattle.alu.specs.Flags.{flag_byte_of, result_of, with_cy, parity_of}
use Rattle.alu.specs.Sums.{sum_of, half_carry_of, add_of, sub_of, cmp_of, keep_cy, inr_of, dcr_of, daa_of}
use Rattle.alu.specs.Logic.{and_carry_of, ana_of, xra_of, ora_of}
use Rattle.alu.specs.Words.{dad_of, up_of}

-- what an operation gave, the byte that it should be, and the flag byte: S Z 0 AC 0 P 1 CY
record Example : Type 0 where
  gave : Flagged
  value : ℕ
  flags : ℕ

infixl 20 ◌gives◌with◌
◌gives◌with◌ : Flagged → ℕ → ℕ → Example
x gives v with f = record { gave = x; value = v; flags = f }

-- the cards: ADD, SUB A, DAA, DCR with CY off and on, INR, ANA; then CPI 00, SBI FF with CY, SUI 01 from 00, DAA of 00 with
-- CY, 05 with AC, 9A, 99; ANA with bit 3 in A alone, in the operand alone, in neither; XRA and ORA with bit 3 in A
examples : List Example
examples =
    (add_of 0x6C 0x2E false gives 0x9A with 0b10010110)
    ∷ (sub_of 0x3E 0x3E false gives 0x00 with 0b01010110)
    ∷ (daa_of 0x9B false false gives 0x01 with 0b00010011)
    ∷ (dcr_of 0x00 false gives 0xFF with 0b10000110)
    ∷ (dcr_of 0x00 true gives 0xFF with 0b10000111)
    ∷ (inr_of 0xFF false gives 0x00 with 0b01010110)
    ∷ (ana_of 0xFC 0x0F gives 0x0C with 0b00010110)
    ∷ (cmp_of 0x7B 0x00 gives 0x7B with 0b00010110)
    ∷ (sub_of 0x7B 0xFF true gives 0x7B with 0b00000111)
    ∷ (sub_of 0x00 0x01 false gives 0xFF with 0b10000111)
    ∷ (daa_of 0x00 false true gives 0x60 with 0b00000111)
    ∷ (daa_of 0x05 true false gives 0x0B with 0b00000010)
    ∷ (daa_of 0x9A false false gives 0x00 with 0b01010111)
    ∷ (daa_of 0x99 false false gives 0x99 with 0b10000110)
    ∷ (ana_of 0x08 0x07 gives 0x00 with 0b01010110)
    ∷ (ana_of 0x87 0x88 gives 0x80 with 0b10010010)
    ∷ (ana_of 0xF7 0x07 gives 0x07 with 0b00000010)
    ∷ (xra_of 0x88 0x07 gives 0x8F with 0b10000010)
    ∷ (ora_of 0x08 0x07 gives 0x0F with 0b00000110)
    ∷ []

hold : List Example → Bool
hold [] = true
hold (x ∷ xs) = eqb x.gave.value x.value && eqb (flag_byte_of x.gave.flags) x.flags && hold xs

examples_hold : T (hold examples)
unfolding examples hold ◌gives◌with◌ flag_byte_of result_of with_cy parity_of
    sum_of half_carry_of add_of sub_of cmp_of keep_cy inr_of dcr_of daa_of and_carry_of ana_of xra_of ora_of
examples_hold = tt

-- DAD H with H,L 8000, and INX at FFFF
dad_example : dad_of 0x8000 0x8000 ≡ record { value = 0; cy = true }
unfolding dad_of
dad_example = refl

inx_example : up_of 0xFFFF 1 ≡ 0
inx_example = refl
