-- The cycles of each instruction do what the manual says. Assumes nothing.
use Prim.Native.Nat.{ℕ, ◌/◌, ◌%◌}
use mathlib.Core.Path.{◌≡◌, refl}
use mathlib.Core.Bool.{Bool, true, false}
use mathlib.Core.List.{List}
use native.Mathlib.Omega.{arith}
use lib.Dec.{T, ltb, eqb→eq, ltb→lt}
use lib.ListN.{get_or}
use Rattle.laws.proofs.Every.{and_left, and_right}
use Rattle.alu.specs.Words.{up_of, down_of}
use Rattle.alu.specs.Flags.{flags_of}
use Rattle.opcodes.specs.Instructions.{Instruction}
use Rattle.opcodes.specs.Instructions.{nop, hlt, xchg, xthl, pchl, sphl, di, ei, jmp, call, ret, rcc, jcc, ccc}
use Rattle.opcodes.specs.Instructions.{shld, lhld, sta, lda, inr_m, dcr_m, mvi_m, out, inp, undefined}
use Rattle.opcodes.specs.Instructions.{lxi, dad, stax, ldax, inx, dcx, push, pop, inr_r, dcr_r, mvi_r, mov_rm, mov_mr}
use Rattle.opcodes.specs.Instructions.{mov_rr, alu_r, alu_m, alu_i, acc, rst}
use Rattle.opcodes.specs.Cycles.{cycles}
use Rattle.opcodes.specs.Kinds.{kind_of, writes_of, reads_of, raises_of}
use Rattle.effect.specs.declared.registers.Registers.{Registers}
use Rattle.effect.specs.Registers.{word, reg_of, with_reg, with_flags, with_result}
use Rattle.effect.specs.Pairs.{pair_of, with_pair, pop_pair, pair_high_of, pair_low_of}
use Rattle.effect.specs.Kept.{kept_for, keep_of, wz_of}
use Rattle.effect.specs.Bus.{address_of, given_of}
use Rattle.effect.specs.Effect.{counted, dad_pair, accumulated, computed, returned, jumped, called, finish}
use Rattle.machine.specs.Look.{first_pc_of}
use Rattle.machine.specs.Request.{asked_of}
use Rattle.machine.specs.Step.{risen_of}
use Rattle.run.specs.State.{byte_on, memory_after, outputs_after}
use Rattle.demands.specs.Outside.{Outside}
use Rattle.demands.proofs.Work.{Work, uses}
use Rattle.demands.specs.Manual.{Result, does}
use Rattle.demands.proofs.Digits.{register_is, to_register_lem, pair_is, to_pair_lem, to_both_lem}
use Rattle.demands.proofs.Digits.{more_is, less_is, register_in, pair_in, first_in, second_in}
use Rattle.demands.proofs.Fits.{fits}
use Rattle.demands.proofs.Opcode.{back, fresh}

-- one name that opens what a cycle does
unfoldable pub working : ℕ
unfolding cycles kind_of writes_of reads_of raises_of kept_for keep_of wz_of address_of given_of first_pc_of asked_of risen_of byte_on memory_after
    outputs_after
working = 0

-- and one that opens what an instruction's last state does
unfoldable pub effects : ℕ
unfolding finish reg_of with_reg pair_of pair_high_of pair_low_of with_pair pop_pair with_flags with_result counted dad_pair accumulated
    computed returned jumped called
effects = 0

-- of registers, memory, output ports, and what comes from outside
module _ (E : Outside) (r : Registers) (memory outputs : List ℕ) where
  -- the opcode
  abbrev pub op : ℕ
  op = get_or memory (r.pc % 65536) 0

  -- where the three bytes of an instruction stand, and what follows them
  at₀ : down_of (up_of r.pc 1) 1 ≡ r.pc % 65536
  at₀ = back r.pc

  at₁ : down_of (up_of (up_of r.pc 1) 1) 1 ≡ up_of r.pc 1
  at₁ = omega arith

  at₂ : down_of (up_of (up_of (up_of r.pc 1) 1) 1) 1 ≡ up_of r.pc 2
  at₂ = omega arith

  on₂ : up_of (up_of r.pc 1) 1 ≡ up_of r.pc 2
  on₂ = omega arith

  on₃ : up_of (up_of (up_of r.pc 1) 1) 1 ≡ up_of r.pc 3
  on₃ = omega arith

  -- the last state of the instruction i
  abbrev pub finished : Instruction → Bool → Work → Result
  finished i t d = record { regs = finish i t d.kept d.regs; memory = d.memory; outputs = d.outputs }

  -- the cycles of the instruction i and its last state do what the manual says
  pub agree : (i : Instruction) (t : Bool) → T (fits i op)
      → finished i t (uses E 0 (cycles i t) (fresh E r memory outputs)) ≡ does r memory E.inputs outputs i t
  unfolding working does effects
  agree nop t q = refl
  agree hlt t q = refl
  agree xchg t q = refl
  agree xthl t q = refl
  agree pchl t q = refl
  agree sphl t q = refl
  agree di t q = refl
  agree ei t q = refl
  agree jmp t q = rw (at₁, at₂)
  agree call t q = rw (at₁, at₂, on₃)
  agree ret t q = refl
  agree rcc true q = refl
  agree rcc false q = refl
  agree jcc true q = rw (at₁, at₂)
  agree jcc false q = rw on₃
  agree ccc true q = rw (at₁, at₂, on₃)
  agree ccc false q = rw on₃
  agree shld t q = rw (at₁, at₂, on₃)
  agree lhld t q = rw (at₁, at₂, on₃)
  agree sta t q = rw (at₁, at₂, on₃)
  agree lda t q = rw (at₁, at₂, on₃)
  agree inr_m t q = rw (more_is (get_or memory (word r.h r.l) 0) (flags_of r.f).cy)
  agree dcr_m t q = rw (less_is (get_or memory (word r.h r.l) 0) (flags_of r.f).cy)
  agree mvi_m t q = rw (at₁, on₂)
  agree out t q = rw (at₁, on₂)
  agree inp t q = rw (at₁, on₂)
  agree (lxi p) t q = rw (at₁, at₂, on₃, to_pair_lem _ r p (ltb→lt p 4 q))
  agree (dad p) t q = rw (pair_is r p (ltb→lt p 4 q))
  agree (stax p) t q = rw (at₀, pair_in r op p (eqb→eq (op / 16 % 4) p q))
  agree (ldax p) t q = rw (at₀, pair_in r op p (eqb→eq (op / 16 % 4) p q))
  agree (inx p) t q = rw (pair_is r p (ltb→lt p 4 q), to_pair_lem _ r p (ltb→lt p 4 q))
  agree (dcx p) t q = rw (pair_is r p (ltb→lt p 4 q), to_pair_lem _ r p (ltb→lt p 4 q))
  agree (push p) t q = let e = eqb→eq (op / 16 % 4) p q in rw (at₀, first_in r op p e, second_in r op p e)
  agree (pop p) t q = rw (to_both_lem _ _ r p (ltb→lt p 4 q))
  agree (inr_r n) t q = rw (register_is r n (ltb→lt n 8 q), to_register_lem _ r n (ltb→lt n 8 q))
  agree (dcr_r n) t q = rw (register_is r n (ltb→lt n 8 q), to_register_lem _ r n (ltb→lt n 8 q))
  agree (mvi_r n) t q = rw (at₁, on₂, to_register_lem _ r n (ltb→lt n 8 q))
  agree (mov_rm n) t q = rw (to_register_lem _ r n (ltb→lt n 8 q))
  agree (mov_mr n) t q = rw (at₀, register_in r op n (eqb→eq (op % 8) n q))
  agree (mov_rr d s) t q =
      let x = ltb→lt d 8 (and_left (ltb d 8) (ltb s 8) q) in
      let y = ltb→lt s 8 (and_right (ltb d 8) (ltb s 8) q) in
      rw (register_is r s y, to_register_lem _ r d x)
  agree (alu_r o s) t q = rw (register_is r s (ltb→lt s 8 q))
  agree (alu_m o) t q = refl
  agree (alu_i o) t q = rw (at₁, on₂)
  agree (acc o) t q = refl
  agree (rst n) t q = refl
  agree undefined t q = absurd q
