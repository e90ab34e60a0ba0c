-- What an instruction's last state does to the registers, from the bytes read. Source: Intel's 8080 manual.
-- Cited by `effect::operations`, `low`, `high` and `last`.
use Rattle.std.specs.Prelude.{ℕ, ◌*◌, Bool, true, false}
use Rattle.laws.specs.Choice.{pick}
use Rattle.alu.specs.Flags.{flags_of, with_cy}
use Rattle.alu.specs.Sums.{inr_of, dcr_of}
use Rattle.alu.specs.Words.{dad_of, up_of, down_of}
use Rattle.alu.specs.Groups.{arithmetic_of, accumulator_of}
use Rattle.alu.specs.declared.flags.Flagged.{Flagged}
use Rattle.opcodes.specs.Condition.{met_of}
use Rattle.opcodes.specs.Instructions.{Instruction, decode}
use Rattle.opcodes.specs.Instructions.{nop, hlt, xchg, xthl, pchl, sphl, di, ei, jmp, call, ret, rcc, jcc, ccc}
use Rattle.opcodes.specs.Instructions.{shld, lhld, sta, lda, inr_m, dcr_m, mvi_m, out, inp, undefined}
use Rattle.opcodes.specs.Instructions.{lxi, dad, stax, ldax, inx, dcx, push, pop, inr_r, dcr_r, mvi_r, mov_rm, mov_mr}
use Rattle.opcodes.specs.Instructions.{mov_rr, alu_r, alu_m, alu_i, acc, rst}
use Rattle.effect.specs.declared.registers.Registers.{Registers}
use Rattle.effect.specs.declared.kept.Kept.{Kept}
use Rattle.effect.specs.Registers.{word, with_a, with_de, with_hl, with_sp, with_pc, with_inte, with_flags, with_result}
use Rattle.effect.specs.Registers.{reg_of, with_reg}
use Rattle.effect.specs.Pairs.{pair_of, with_pair, pop_pair}
use Rattle.effect.specs.Kept.{wz_of}

-- a counted byte x goes back into the register n, with its flags
unfoldable pub counted : ℕ → Flagged → Registers → Registers
counted n x r = with_flags x.flags (with_reg n x.value r)

-- the pair p is added to HL; "DAD sets CY only"
unfoldable pub dad_pair : ℕ → Registers → Registers
dad_pair p r =
    with_flags (with_cy (dad_of (pair_of 2 r) (pair_of p r)).cy (flags_of r.f))
    (with_pair 2 (dad_of (pair_of 2 r) (pair_of p r)).value r)

-- operation o of A alone, and of A and the byte v
unfoldable pub accumulated : ℕ → Registers → Registers
accumulated o r = with_result (accumulator_of o r.a (flags_of r.f)) r

unfoldable pub computed : ℕ → ℕ → Registers → Registers
computed o v r = with_result (arithmetic_of o r.a v (flags_of r.f).cy) r

-- to the address read from the stack, to the one read as operand, and to pc with two bytes pushed
unfoldable pub returned : Kept → Registers → Registers
returned k r = with_pc (wz_of k) (with_sp (up_of r.sp 2) r)

unfoldable pub jumped : Kept → Registers → Registers
jumped k r = with_pc (wz_of k) r

unfoldable pub called : ℕ → Registers → Registers
called pc r = with_pc pc (with_sp (down_of r.sp 2) r)

-- the registers after the last state; t says whether the condition is met, k has the bytes read
unfoldable pub finish : Instruction → Bool → Kept → Registers → Registers
finish nop t k r = r
finish hlt t k r = r
finish xchg t k r = with_hl r.d r.e (with_de r.h r.l r)
finish xthl t k r = with_hl k.b2 k.b1 r
finish pchl t k r = with_pc (word r.h r.l) r
finish sphl t k r = with_sp (word r.h r.l) r
finish di t k r = with_inte false r
finish ei t k r = with_inte true r
finish jmp t k r = jumped k r
finish call t k r = called (wz_of k) r
finish ret t k r = returned k r
finish rcc t k r = with_pc (pick t (wz_of k) r.pc) (with_sp (pick t (up_of r.sp 2) r.sp) r)
finish jcc t k r = with_pc (pick t (wz_of k) r.pc) r
finish ccc t k r = with_pc (pick t (wz_of k) r.pc) (with_sp (pick t (down_of r.sp 2) r.sp) r)
finish shld t k r = r
finish lhld t k r = with_hl k.b4 k.b3 r
finish sta t k r = r
finish lda t k r = with_a k.b3 r
finish inr_m t k r = with_flags (inr_of k.b1 (flags_of r.f).cy).flags r
finish dcr_m t k r = with_flags (dcr_of k.b1 (flags_of r.f).cy).flags r
finish mvi_m t k r = r
finish out t k r = r
finish inp t k r = with_a k.b2 r
finish undefined t k r = r
finish (lxi p) t k r = with_pair p (wz_of k) r
finish (dad p) t k r = dad_pair p r
finish (stax p) t k r = r
finish (ldax p) t k r = with_a k.b1 r
finish (inx p) t k r = with_pair p (up_of (pair_of p r) 1) r
finish (dcx p) t k r = with_pair p (down_of (pair_of p r) 1) r
finish (push p) t k r = with_sp (down_of r.sp 2) r
finish (pop p) t k r = pop_pair p k.b2 k.b1 r
finish (inr_r n) t k r = counted n (inr_of (reg_of n r) (flags_of r.f).cy) r
finish (dcr_r n) t k r = counted n (dcr_of (reg_of n r) (flags_of r.f).cy) r
finish (mvi_r n) t k r = with_reg n k.b1 r
finish (mov_rm n) t k r = with_reg n k.b1 r
finish (mov_mr n) t k r = r
finish (mov_rr d s) t k r = with_reg d (reg_of s r) r
finish (alu_r o s) t k r = computed o (reg_of s r) r
finish (alu_m o) t k r = computed o k.b1 r
finish (alu_i o) t k r = computed o k.b1 r
finish (acc o) t k r = accumulated o r
finish (rst n) t k r = called (8 * n) r

-- of the opcode kept, under the present flags
unfoldable pub effect_of : Kept → Registers → Registers
effect_of k r = finish (decode k.opcode) (met_of k.opcode r.f) k r
