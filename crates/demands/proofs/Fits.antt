-- The numbers in an instruction are digits of its opcode: one computed test over all opcodes. Assumes nothing.
use Prim.Native.Nat.{ℕ, ◌/◌, ◌%◌}
use mathlib.Core.Path.{subst}
use mathlib.Core.Bool.{Bool, true, false, not, ◌&&◌, ◌||◌}
use lib.Dec.{T, eqb, ltb}
use Rattle.laws.proofs.Every.{every, below}
use Rattle.laws.proofs.Tests.{T→true}
use Rattle.opcodes.specs.Instructions.{Instruction, decode}
use Rattle.opcodes.specs.Instructions.{nop, hlt, xchg, xthl, pchl, sphl, di, ei, jmp, call, ret, rcc, jcc, ccc}
use Rattle.opcodes.specs.Instructions.{shld, lhld, sta, lda, inr_m, dcr_m, mvi_m, out, inp, undefined}
use Rattle.opcodes.specs.Instructions.{lxi, dad, stax, ldax, inx, dcx, push, pop, inr_r, dcr_r, mvi_r, mov_rm, mov_mr}
use Rattle.opcodes.specs.Instructions.{mov_rr, alu_r, alu_m, alu_i, acc, rst}
use Rattle.opcodes.specs.Cycles.{defined_of, cycling}
use Rattle.opcodes.proofs.Counts.{defined_byte}

-- they number a register or a pair; where a cycle looks into the opcode for them, they are what it finds there
abbrev pub fits : Instruction → ℕ → Bool
fits nop op = true
fits hlt op = true
fits xchg op = true
fits xthl op = true
fits pchl op = true
fits sphl op = true
fits di op = true
fits ei op = true
fits jmp op = true
fits call op = true
fits ret op = true
fits rcc op = true
fits jcc op = true
fits ccc op = true
fits shld op = true
fits lhld op = true
fits sta op = true
fits lda op = true
fits inr_m op = true
fits dcr_m op = true
fits mvi_m op = true
fits out op = true
fits inp op = true
fits (lxi p) op = ltb p 4
fits (dad p) op = ltb p 4
fits (stax p) op = eqb (op / 16 % 4) p
fits (ldax p) op = eqb (op / 16 % 4) p
fits (inx p) op = ltb p 4
fits (dcx p) op = ltb p 4
fits (push p) op = eqb (op / 16 % 4) p
fits (pop p) op = ltb p 4
fits (inr_r n) op = ltb n 8
fits (dcr_r n) op = ltb n 8
fits (mvi_r n) op = ltb n 8
fits (mov_rm n) op = ltb n 8
fits (mov_mr n) op = eqb (op % 8) n
fits (mov_rr d s) op = ltb d 8 && ltb s 8
fits (alu_r o s) op = ltb s 8
fits (alu_m o) op = true
fits (alu_i o) op = true
fits (acc o) op = true
fits (rst n) op = true
fits undefined op = false

fit_right : ℕ → Bool
fit_right op = not (defined_of op) || fits (decode op) op

all_fit : T (every fit_right 256)
unfolding fit_right cycling
all_fit = tt

pub fit : (op : ℕ) → T (defined_of op) → T (fits (decode op) op)
unfolding fit_right
fit op t =
    subst (λ (b : Bool). T (not b || fits (decode op) op)) (T→true (defined_of op) t)
    (below fit_right 256 all_fit op (defined_byte op t))
