-- What the last state does to the flag byte: nothing, or it makes a new one, and then no condition counts.
-- Assumes nothing.
use Rattle.std.proofs.Common.{◌≡◌, ℕ, Bool, true, false, ltb, refl}
use Rattle.laws.specs.Choice.{pick}
use Rattle.alu.specs.declared.flags.Flags.{Flags}
use Rattle.alu.specs.Flags.{flag_byte_of, flags_of, with_cy}
use Rattle.alu.specs.Sums.{inr_of, dcr_of}
use Rattle.alu.specs.Words.{dad_of}
use Rattle.alu.specs.Groups.{arithmetic_of, accumulator_of}
use Rattle.opcodes.specs.Cycles.{cycles}
use Rattle.opcodes.specs.Instructions.{Instruction}
use Rattle.opcodes.specs.Instructions.{nop, hlt, xchg, xthl, pchl, sphl, di, ei, jmp, call, ret, rcc, jcc, ccc}
use Rattle.opcodes.specs.Instructions.{shld, lhld, sta, lda, inr_m, dcr_m, mvi_m, out, inp, undefined}
use Rattle.opcodes.specs.Instructions.{lxi, dad, stax, ldax, inx, dcx, push, pop, inr_r, dcr_r, mvi_r, mov_rm, mov_mr}
use Rattle.opcodes.specs.Instructions.{mov_rr, alu_r, alu_m, alu_i, acc, rst}
use Rattle.effect.specs.declared.registers.Registers.{Registers}
use Rattle.effect.specs.declared.kept.Kept.{Kept}
use Rattle.effect.specs.Registers.{reg_of, with_reg, with_flags, with_result}
use Rattle.effect.specs.Pairs.{pair_of, with_pair, pop_pair}
use Rattle.effect.specs.Effect.{counted, dad_pair, accumulated, computed, returned, jumped, called, finish}

-- the flag byte g after an instruction i that found f: the same, or the byte of the flags x, and i has the same cycles with
-- its condition met and not met
pub data After (i : Instruction) (f g : ℕ) : Type 0 where
  kept : g ≡ f → After i f g
  changed : (x : Flags) → g ≡ flag_byte_of x → ((u w : Bool) → cycles i u ≡ cycles i w) → After i f g

-- POP PSW makes a new one, and POP of another pair does not
popped : {p : ℕ} (b : Bool) (v f : ℕ) → After (pop p) f (pick b f (flag_byte_of (flags_of v)))
unfolding cycles
popped true v f = kept refl
popped false v f = changed (flags_of v) refl (λ u w. refl)

-- what any instruction does to the flag byte
pub after_is : (i : Instruction) (t : Bool) (k : Kept) (r : Registers) → After i r.f (finish i t k r).f
unfolding cycles finish with_reg with_flags with_result with_pair pop_pair counted dad_pair accumulated computed returned jumped called
after_is nop t k r = kept refl
after_is hlt t k r = kept refl
after_is xchg t k r = kept refl
after_is xthl t k r = kept refl
after_is pchl t k r = kept refl
after_is sphl t k r = kept refl
after_is di t k r = kept refl
after_is ei t k r = kept refl
after_is jmp t k r = kept refl
after_is call t k r = kept refl
after_is ret t k r = kept refl
after_is rcc t k r = kept refl
after_is jcc t k r = kept refl
after_is ccc t k r = kept refl
after_is shld t k r = kept refl
after_is lhld t k r = kept refl
after_is sta t k r = kept refl
after_is lda t k r = kept refl
after_is inr_m t k r = changed (inr_of k.b1 (flags_of r.f).cy).flags refl (λ u w. refl)
after_is dcr_m t k r = changed (dcr_of k.b1 (flags_of r.f).cy).flags refl (λ u w. refl)
after_is mvi_m t k r = kept refl
after_is out t k r = kept refl
after_is inp t k r = kept refl
after_is undefined t k r = kept refl
after_is (lxi p) t k r = kept refl
after_is (dad p) t k r = changed (with_cy (dad_of (pair_of 2 r) (pair_of p r)).cy (flags_of r.f)) refl (λ u w. refl)
after_is (stax p) t k r = kept refl
after_is (ldax p) t k r = kept refl
after_is (inx p) t k r = kept refl
after_is (dcx p) t k r = kept refl
after_is (push p) t k r = kept refl
after_is (pop p) t k r = popped (ltb p 3) k.b1 r.f
after_is (inr_r n) t k r = changed (inr_of (reg_of n r) (flags_of r.f).cy).flags refl (λ u w. refl)
after_is (dcr_r n) t k r = changed (dcr_of (reg_of n r) (flags_of r.f).cy).flags refl (λ u w. refl)
after_is (mvi_r n) t k r = kept refl
after_is (mov_rm n) t k r = kept refl
after_is (mov_mr n) t k r = kept refl
after_is (mov_rr d s) t k r = kept refl
after_is (alu_r o s) t k r = changed (arithmetic_of o r.a (reg_of s r) (flags_of r.f).cy).flags refl (λ u w. refl)
after_is (alu_m o) t k r = changed (arithmetic_of o r.a k.b1 (flags_of r.f).cy).flags refl (λ u w. refl)
after_is (alu_i o) t k r = changed (arithmetic_of o r.a k.b1 (flags_of r.f).cy).flags refl (λ u w. refl)
after_is (acc o) t k r = changed (accumulator_of o r.a (flags_of r.f)).flags refl (λ u w. refl)
after_is (rst n) t k r = kept refl
