-- What the digits of an opcode number: a register, or for M the byte read. A result for M goes to no register.
-- Assumes nothing.
use Rattle.std.proofs.Common.{◌≡◌, ℕ, Bool, refl, arith}
use Rattle.alu.specs.Flags.{flags_of}
use Rattle.alu.specs.Sums.{inr_of, dcr_of}
use Rattle.opcodes.specs.Instructions.{decode1, decode2, is_m, inr_m, inr_r, dcr_m, dcr_r, mvi_m, mvi_r, acc}
use Rattle.effect.specs.declared.registers.Registers.{Registers}
use Rattle.effect.specs.declared.kept.Kept.{Kept}
use Rattle.effect.specs.Registers.{with_reg}
use Rattle.effect.specs.Effect.{counted, computed, accumulated, finish}
use Rattle.effect.specs.Last.{operand_of}
use Rattle.effect.proofs.Idle.{idle}

stays : (n v : ℕ) (r : Registers) → n ≡ 6 → with_reg n v r ≡ r
unfolding with_reg
stays n v r e = rw e

-- MOV and HLT, arithmetic, INR, DCR and MVI
module _ (t : Bool) (k : Kept) (r : Registers) where
  pub moved : (y z : ℕ) → finish (decode1 y z) t k r ≡ with_reg y (operand_of z k r) r
  unfolding finish decode1 is_m operand_of
  moved y z = grind (arith, stays)

  pub computed_lem : (y z : ℕ) → finish (decode2 y z) t k r ≡ computed y (operand_of z k r) r
  unfolding finish decode2 is_m operand_of
  computed_lem y z = grind arith

  pub counted_up : (y : ℕ) → finish (is_m y inr_m (inr_r y)) t k r ≡ counted y (inr_of (operand_of y k r) (flags_of r.f).cy) r
  unfolding finish is_m operand_of counted
  counted_up y = grind (arith, stays)

  pub counted_down : (y : ℕ) → finish (is_m y dcr_m (dcr_r y)) t k r ≡ counted y (dcr_of (operand_of y k r) (flags_of r.f).cy) r
  unfolding finish is_m operand_of counted
  counted_down y = grind (arith, stays)

  pub set : (y : ℕ) → finish (is_m y mvi_m (mvi_r y)) t k r ≡ with_reg y k.b1 r
  unfolding finish is_m
  set y = grind (arith, stays)

  -- RLC to CMC
  pub alone : (y : ℕ) → finish (acc y) t k r ≡ accumulated y r
  unfolding finish
  alone y = refl

-- what the opcodes 00 to 3F come to
pub ruleset low = (idle, counted_up, counted_down, set, alone)
