-- What the states from T3 on do, to the end of a cycle and its holds. Here cycles count from 0. Assumes nothing.
use Prim.Native.Nat.{ℕ, suc, ◌+◌}
use mathlib.Core.Path.{◌≡◌, refl, ap, ◌∙◌}
use mathlib.Core.Bool.{Bool, true, false}
use lib.Dec.{eqb, eqb-suc-suc, eqb-suc-zero}
use lib.ListN.{length}
use Rattle.laws.specs.Choice.{pick}
use Rattle.opcodes.specs.Condition.{met_of}
use Rattle.opcodes.specs.Instructions.{Instruction, decode}
use Rattle.opcodes.specs.Codes.{fetch4}
use Rattle.opcodes.specs.Cycles.{cycles, code_of, count_of, defined_of}
use Rattle.opcodes.specs.Kinds.{states_of, reads_of, writes_of, kind_of}
use Rattle.opcodes.specs.declared.cycle.Acknowledge.TheVariants.{None}
use Rattle.effect.specs.declared.registers.Registers.{Registers}
use Rattle.effect.specs.declared.kept.Kept.{Kept}
use Rattle.effect.specs.Kept.{kept_for}
use Rattle.effect.specs.Effect.{effect_of}
use Rattle.effect.proofs.After.{After, kept, changed, after_is}
use Rattle.machine.specs.declared.record.Position.{Position}
use Rattle.machine.specs.declared.record.Position.TheVariants.{Later, Hold, Stop}
use Rattle.machine.specs.Record.{with_next, with_regs}
use Rattle.machine.specs.Cycle.{after_of, cycles_of}
use Rattle.machine.specs.Ending.{takes_of, acknowledge_of, clear_of, ended_of, follow_of, hold_of, end_of}
use Rattle.demands.specs.Outside.{Outside, Moment, did, up}
use Rattle.demands.proofs.Work.{Work, took, fetched, here}
use Rattle.demands.proofs.Steps.{driven, step, size, next, ended, with, Ending, Done, opening, follow_clock, end_clock}

-- a later cycle is not the first
two : (c : ℕ) → eqb (suc (suc c)) 1 ≡ false
two c = eqb-suc-suc (suc c) 0 ∙ eqb-suc-zero c

-- a hold, with HOLD up and down
module _ (E : Outside) (d : Work) (c : ℕ) (t : Moment) where
  pub hold_on : up E t.clock ≡ true → step E (here d (Hold (suc c)) t) ≡ here d (Hold (suc c)) (did E t)
  unfolding opening hold_of
  hold_on h = rw h

  pub hold_off : up E t.clock ≡ false
      → step E (here d (Hold (suc c)) t)
      ≡ with d (follow_of (next c d.kept.opcode d.regs) (here d (Hold (suc c)) (did E t)).machine)
  unfolding opening hold_of
  hold_off h =
      rw h
      (ap (with d) (follow_clock (t.clock + 1) (next c d.kept.opcode d.regs) (driven E (here d (Hold (suc c)) t).machine)))

-- an instruction has as many cycles under the flags that it leaves
after_count : (i : Instruction) (f g : ℕ) (met : ℕ → Bool) → After i f g
    → length (cycles i (met g)) ≡ length (cycles i (met f))
after_count i f g met (kept e) = ap (λ (x : ℕ). length (cycles i (met x))) e
after_count i f g met (changed x e s) = ap length (s (met g) (met f))

effect_count : (k : Kept) (r : Registers) → cycles_of k.opcode (effect_of k r).f ≡ cycles_of k.opcode r.f
unfolding cycles_of count_of effect_of
effect_count k r =
    after_count (decode k.opcode) r.f (effect_of k r).f (met_of k.opcode)
    (after_is (decode k.opcode) (met_of k.opcode r.f) k r)

pick_count : (b : Bool) (k : Kept) (r : Registers)
    → cycles_of k.opcode (pick b (effect_of k r) r).f ≡ cycles_of k.opcode r.f
pick_count true k r = effect_count k r
pick_count false k r = refl

-- so the cycle after one is the same in its holds
pub next_end : (c : ℕ) (d : Work) → next c d.kept.opcode (ended c d).regs ≡ next c d.kept.opcode d.regs
next_end c d =
    ap (λ (n : ℕ). after_of n (suc c)) (pick_count (eqb (next c d.kept.opcode d.regs) 0) d.kept d.regs)

module _ (E : Outside) (d : Work) (c : ℕ) (t : Moment) where
  -- the end of a cycle, with HOLD up and down
  pub end_on : (p : Position) → up E t.clock ≡ true
      → Ending c (next c d.kept.opcode d.regs) p d (did E t) ≡ here (ended c d) (Hold (suc c)) (did E t)
  unfolding end_of hold_of with_next with_regs
  end_on p h = rw h

  pub end_off : (p : Position) → up E t.clock ≡ false
      → Ending c (next c d.kept.opcode d.regs) p d (did E t) ≡ Done c d (did E t)
  unfolding end_of hold_of with_regs follow_of ended_of acknowledge_of clear_of takes_of with_next
  end_off p h = rw h

  -- and the end of its holds
  pub held_off : up E t.clock ≡ false → step E (here (ended c d) (Hold (suc c)) t) ≡ Done c d (did E t)
  held_off h =
      hold_off E (ended c d) c t h
      ∙ ap (λ (n : ℕ). with d (follow_of n (here (ended c d) (Hold (suc c)) (did E t)).machine)) (next_end c d)

  module _ (code : ℕ) (e : code_of d.kept.opcode (suc (suc c)) ≡ code) where
    pub third_end : eqb (states_of code) 3 ≡ true
        → step E (here d (Later (suc (suc c)) 3) t)
        ≡ Ending (suc c) (next (suc c) d.kept.opcode d.regs) (Later (suc (suc c)) 3) (took E code (suc c) d) (did E t)
    unfolding opening
    third_end h =
        rw (e, two c, h)
        (ap (with (took E code (suc c) d))
        (end_clock (t.clock + 1) (suc (suc c)) (next (suc c) d.kept.opcode d.regs)
        (here (took E code (suc c) d) (Later (suc (suc c)) 3) (record { lines = (did E t).lines; clock = t.clock })).machine))

    pub third_on : eqb (states_of code) 3 ≡ false
        → step E (here d (Later (suc (suc c)) 3) t) ≡ here (took E code (suc c) d) (Later (suc (suc c)) 4) (did E t)
    unfolding opening
    third_on h = rw (e, two c, h)

  module _ (e : code_of d.kept.opcode 1 ≡ fetch4) where
    pub third_fetch : defined_of (fetched E d) ≡ true → step E (here d (Later 1 3) t) ≡ here (took E fetch4 0 d) (Later 1 4) (did E t)
    unfolding opening reads_of kind_of writes_of
    third_fetch h = rw (e, h)

    pub third_stop : defined_of (fetched E d) ≡ false
        → step E (here d (Later 1 3) t)
        ≡ here
        (record { regs = d.regs; kept = kept_for None 0; memory = (took E fetch4 0 d).memory; outputs = (took E fetch4 0 d).outputs })
        Stop (did E t)
    unfolding opening clear_of
    third_stop h = rw (e, h)

  pub fourth_end : eqb (size c d.kept.opcode) 4 ≡ true
      → step E (here d (Later (suc c) 4) t)
      ≡ Ending c (next c d.kept.opcode d.regs) (Later (suc c) 4) d (did E t)
  unfolding opening
  fourth_end h =
      rw h
      (ap (with d)
      (end_clock (t.clock + 1) (suc c) (next c d.kept.opcode d.regs)
      (here d (Later (suc c) 4) (record { lines = (did E t).lines; clock = t.clock })).machine))

  pub fourth_on : eqb (size c d.kept.opcode) 4 ≡ false
      → step E (here d (Later (suc c) 4) t) ≡ here d (Later (suc c) 5) (did E t)
  unfolding opening
  fourth_on h = rw h

  pub fifth_end :
      step E (here d (Later (suc c) 5) t) ≡ Ending c (next c d.kept.opcode d.regs) (Later (suc c) 5) d (did E t)
  unfolding opening
  fifth_end =
      ap (with d)
      (end_clock (t.clock + 1) (suc c) (next c d.kept.opcode d.regs)
      (here d (Later (suc c) 5) (record { lines = (did E t).lines; clock = t.clock })).machine)
