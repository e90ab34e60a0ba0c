-- No instruction but EI and DI changes INTE. Assumes nothing.
use Prim.Native.Nat.{ℕ}
use mathlib.Core.Path.{◌≡◌, refl}
use mathlib.Core.Bool.{Bool, true, false, not, ◌||◌, true≢false}
use lib.Dec.{T, eqb}
use Rattle.laws.proofs.Every.{every, below}
use Rattle.laws.proofs.Tests.{true→T}
use Rattle.opcodes.specs.Condition.{met_of}
use Rattle.opcodes.specs.Cycles.{defined_of}
use Rattle.opcodes.specs.Instructions.{Instruction, decode, decoding}
use Rattle.opcodes.specs.Instructions.{nop, hlt, xchg, xthl, pchl, sphl, di, ei, jmp, call, ret, rcc, jcc, ccc}
use Rattle.opcodes.specs.Instructions.{shld, lhld, sta, lda, inr_m, dcr_m, mvi_m, out, inp, undefined}
use Rattle.opcodes.specs.Instructions.{lxi, dad, stax, ldax, inx, dcx, push, pop, inr_r, dcr_r, mvi_r, mov_rm, mov_mr}
use Rattle.opcodes.specs.Instructions.{mov_rr, alu_r, alu_m, alu_i, acc, rst}
use Rattle.opcodes.proofs.Counts.{defined_byte}
use Rattle.effect.specs.declared.registers.Registers.{Registers}
use Rattle.effect.specs.declared.kept.Kept.{Kept}
use Rattle.effect.specs.Registers.{with_reg, with_flags, with_result}
use Rattle.effect.specs.Pairs.{with_pair, pop_pair}
use Rattle.demands.specs.Bound.{Neither}
use Rattle.effect.specs.Effect.{counted, dad_pair, accumulated, computed, returned, jumped, called, finish, effect_of}

-- the instruction sets INTE or clears it
abbrev sets : Instruction → Bool
sets nop = false
sets hlt = false
sets xchg = false
sets xthl = false
sets pchl = false
sets sphl = false
sets di = true
sets ei = true
sets jmp = false
sets call = false
sets ret = false
sets rcc = false
sets jcc = false
sets ccc = false
sets shld = false
sets lhld = false
sets sta = false
sets lda = false
sets inr_m = false
sets dcr_m = false
sets mvi_m = false
sets out = false
sets inp = false
sets undefined = false
sets (lxi n) = false
sets (dad n) = false
sets (stax n) = false
sets (ldax n) = false
sets (inx n) = false
sets (dcx n) = false
sets (push n) = false
sets (pop n) = false
sets (inr_r n) = false
sets (dcr_r n) = false
sets (mvi_r n) = false
sets (mov_rm n) = false
sets (mov_mr n) = false
sets (alu_m n) = false
sets (alu_i n) = false
sets (acc n) = false
sets (rst n) = false
sets (mov_rr m n) = false
sets (alu_r m n) = false

keeps_inte : (i : Instruction) (t : Bool) (k : Kept) (r : Registers) → sets i ≡ false → (finish i t k r).inte ≡ r.inte
unfolding finish with_reg with_flags with_result with_pair pop_pair counted dad_pair accumulated computed returned jumped called
keeps_inte nop t k r e = refl
keeps_inte hlt t k r e = refl
keeps_inte xchg t k r e = refl
keeps_inte xthl t k r e = refl
keeps_inte pchl t k r e = refl
keeps_inte sphl t k r e = refl
keeps_inte di t k r e = absurd (true≢false e)
keeps_inte ei t k r e = absurd (true≢false e)
keeps_inte jmp t k r e = refl
keeps_inte call t k r e = refl
keeps_inte ret t k r e = refl
keeps_inte rcc t k r e = refl
keeps_inte jcc t k r e = refl
keeps_inte ccc t k r e = refl
keeps_inte shld t k r e = refl
keeps_inte lhld t k r e = refl
keeps_inte sta t k r e = refl
keeps_inte lda t k r e = refl
keeps_inte inr_m t k r e = refl
keeps_inte dcr_m t k r e = refl
keeps_inte mvi_m t k r e = refl
keeps_inte out t k r e = refl
keeps_inte inp t k r e = refl
keeps_inte undefined t k r e = refl
keeps_inte (lxi n) t k r e = refl
keeps_inte (dad n) t k r e = refl
keeps_inte (stax n) t k r e = refl
keeps_inte (ldax n) t k r e = refl
keeps_inte (inx n) t k r e = refl
keeps_inte (dcx n) t k r e = refl
keeps_inte (push n) t k r e = refl
keeps_inte (pop n) t k r e = refl
keeps_inte (inr_r n) t k r e = refl
keeps_inte (dcr_r n) t k r e = refl
keeps_inte (mvi_r n) t k r e = refl
keeps_inte (mov_rm n) t k r e = refl
keeps_inte (mov_mr n) t k r e = refl
keeps_inte (alu_m n) t k r e = refl
keeps_inte (alu_i n) t k r e = refl
keeps_inte (acc n) t k r e = refl
keeps_inte (rst n) t k r e = refl
keeps_inte (mov_rr m n) t k r e = refl
keeps_inte (alu_r m n) t k r e = refl

-- only EI and DI do: a computed test over all opcodes
quiet : ℕ → Bool
quiet op = not (sets (decode op)) || eqb op 0xFB || eqb op 0xF3

all_quiet : T (every quiet 256)
unfolding quiet decoding
all_quiet = tt

or_not : (a b c : Bool) → T (not a || b || c) → b ≡ false → c ≡ false → a ≡ false
or_not false b c t p q = refl
or_not true true c t p q = absurd (true≢false p)
or_not true false true t p q = absurd (true≢false q)
or_not true false false t p q = absurd t

-- an instruction that is neither leaves INTE
pub effect_inte : (k : Kept) (r : Registers) → defined_of k.opcode ≡ true → Neither k.opcode
    → (effect_of k r).inte ≡ r.inte
unfolding effect_of quiet
effect_inte k r d (p, q) =
    keeps_inte (decode k.opcode) (met_of k.opcode r.f) k r
    (or_not (sets (decode k.opcode)) (eqb k.opcode 0xFB) (eqb k.opcode 0xF3)
    (below quiet 256 all_quiet k.opcode (defined_byte k.opcode (true→T (defined_of k.opcode) d))) p q)
