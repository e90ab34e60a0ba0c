-- The cycles of an instruction do what the manual says, in as many states; an acknowledged restart too. Assumes nothing.
use Prim.Native.Nat.{ℕ, ◌+◌, ◌*◌, ◌%◌, ◌<◌}
use mathlib.Core.Path.{◌≡◌, refl, sym, ap, ◌∙◌}
use mathlib.Core.Bool.{Bool, false, false≢true}
use mathlib.Core.List.{List}
use native.Mathlib.Omega.{arith}
use lib.Dec.{T}
use lib.ListN.{get_or}
use Rattle.laws.proofs.Tests.{T→true}
use Rattle.opcodes.specs.declared.cycle.Acknowledge.{Acknowledge}
use Rattle.opcodes.specs.declared.cycle.Acknowledge.TheVariants.{None, Running, Halted}
use Rattle.opcodes.specs.Instructions.{decode, decoding, rst}
use Rattle.opcodes.specs.Condition.{met_of}
use Rattle.opcodes.specs.Cycles.{cycles, defined_of}
use Rattle.opcodes.specs.Kinds.{states_of, is_none}
use Rattle.opcodes.specs.Totals.{total_of, listed_total}
use Rattle.opcodes.proofs.Counts.{defined_byte}
use Rattle.opcodes.proofs.Totals.{total_is, shape_is}
use Rattle.effect.specs.declared.registers.Registers.{Registers}
use Rattle.effect.specs.Kept.{kept_for}
use Rattle.effect.specs.Effect.{effect_of}
use Rattle.machine.specs.Request.{restart_of}
use Rattle.demands.specs.Outside.{Outside}
use Rattle.demands.proofs.Work.{Work, uses, closing, result_of}
use Rattle.demands.specs.Manual.{does, manual, restart}
use Rattle.demands.specs.States.{manual_states, restart_states}
use Rattle.demands.proofs.Digits.{eight, met_is}
use Rattle.demands.proofs.Fits.{fit}
use Rattle.demands.proofs.Opcode.{fresh, same_flags, same_opcode}
use Rattle.demands.proofs.Agree.{finished, agree, working, effects}

module _ (E : Outside) (r : Registers) (memory outputs : List ℕ) where
  abbrev op : ℕ
  op = get_or memory (r.pc % 65536) 0

  -- the last state knows the opcode and the flags
  close : (d : Work) → d.kept.opcode ≡ op → d.regs.f ≡ r.f
      → closing d ≡ finished E r memory outputs (decode op) (met_of op r.f) d
  unfolding effect_of
  close d p q = rw (p, q)

  -- the cycles of the opcode at PC, under the present flags, do what the manual says
  pub cycles_do : T (defined_of op)
      → result_of E (cycles (decode op) (met_of op r.f)) (fresh E r memory outputs) ≡ manual r memory E.inputs outputs op
  unfolding result_of manual
  cycles_do t =
      let met = met_of op r.f in
      let start = fresh E r memory outputs in
      let shaped = shape_is op (defined_byte op t) (T→true (defined_of op) t) met in
      close (uses E 0 (cycles (decode op) met) start) (same_opcode E r memory outputs (cycles (decode op) met) shaped)
      (same_flags E (cycles (decode op) met) 0 start)
      ∙ agree E r memory outputs (decode op) met (fit op t)
      ∙ ap (does r memory E.inputs outputs (decode op)) (sym (met_is op r.f))

-- in as many states as it lists
pub cycles_take : (op : ℕ) → op < 256 → (r : Registers) → total_of (cycles (decode op) (met_of op r.f)) ≡ manual_states op r
unfolding manual_states
cycles_take op h r = total_is op h (met_of op r.f) ∙ ap (listed_total (decode op)) (sym (met_is op r.f))

-- the byte that answers an acknowledge of restart n is that RST
restart_byte_lem : (n : ℕ) → decode (0xC7 + 8 * (n % 8)) ≡ rst (n % 8)
unfolding decoding
restart_byte_lem n =
    eight (λ k. decode (0xC7 + 8 * k) ≡ rst k) refl refl refl refl refl refl refl refl (n % 8) (omega arith)

-- an acknowledge of restart n begins with nothing read, and with INTE off, as the taking has left it
module _ (E : Outside) (r : Registers) (memory outputs : List ℕ) (n : ℕ) where
  abbrev pub answering : Acknowledge → Work
  answering ack = record { regs = r; kept = kept_for ack n; memory = memory; outputs = outputs }

  restarting : Acknowledge → Bool → Work
  restarting ack t = uses E 0 (cycles (rst (n % 8)) t) (answering ack)

  byte_read : (ack : Acknowledge) → is_none ack ≡ false → (t : Bool) → (restarting ack t).kept.opcode ≡ 0xC7 + 8 * (n % 8)
  unfolding restarting working restart_of
  byte_read None q t = absurd (false≢true (sym q))
  byte_read Running q t = refl
  byte_read Halted q t = refl

  pushed : (ack : Acknowledge) → is_none ack ≡ false → r.inte ≡ false → (t u : Bool)
      → finished E r memory outputs (rst (n % 8)) u (restarting ack t) ≡ restart r memory E.inputs outputs (n % 8)
  unfolding restarting working effects restart_of restart
  pushed None q off t u = absurd (false≢true (sym q))
  pushed Running q off t u = rw off
  pushed Halted q off t u = rw off

  ends : (ack : Acknowledge) → is_none ack ≡ false → (t : Bool)
      → closing (restarting ack t)
      ≡ finished E r memory outputs (rst (n % 8)) (met_of (0xC7 + 8 * (n % 8)) (restarting ack t).regs.f) (restarting ack t)
  unfolding effect_of
  ends ack q t = rw (byte_read ack q t, restart_byte_lem n)

  -- an acknowledge, from running or from halt, does what the manual says of a restart
  pub restart_does : (ack : Acknowledge) → is_none ack ≡ false → r.inte ≡ false → (t : Bool)
      → result_of E (cycles (decode (0xC7 + 8 * (n % 8))) t) (answering ack) ≡ restart r memory E.inputs outputs (n % 8)
  unfolding result_of restarting
  restart_does ack q off t = rw (restart_byte_lem n) (ends ack q t ∙ pushed ack q off t _)

-- in eleven states
pub restart_takes : (n : ℕ) (t : Bool) → total_of (cycles (decode (0xC7 + 8 * (n % 8))) t) ≡ restart_states
unfolding cycles states_of
restart_takes n t = rw (restart_byte_lem n)
