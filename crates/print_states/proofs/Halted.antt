-- Without events a halted machine stays halted, so that A and PC after 4,096 states are those with which it halted: to stop at
-- the halt and to leave the halt states out of a longer run is the same. Assumes nothing.
use Prim.Native.Nat.{ℕ, zero, suc, ◌+◌}
use mathlib.Core.Path.{◌≡◌}
use mathlib.Core.Bool.{false}
use mathlib.Core.List.{List, []}
use Rattle.effect.specs.declared.registers.Registers.{Registers}
use Rattle.effect.specs.Kept.{keep_of}
use Rattle.machine.specs.declared.record.Position.TheVariants.{Halt}
use Rattle.machine.specs.declared.record.Machine.{Machine}
use Rattle.machine.specs.Record.{with_lines, stopped_of}
use Rattle.machine.specs.Step.{stepping, step_of}
use Rattle.schedule.specs.Levels.{levels_at}
use Rattle.run.specs.Run.{World, eventful_of, state_of, run_of}
use Rattle.run.proofs.Laws.{run_plus}

-- halted with the registers r, HOLD and INT down
pub record Halted (r : Registers) (m : Machine) : Type 0 where
  pub next : m.next ≡ Halt
  pub hold : m.lines.hold ≡ 0
  pub int : m.lines.int ≡ 8
  pub regs : m.regs ≡ r

-- a halt state
halted_step : (r : Registers) (v : ℕ) (m : Machine) → Halted r m → Halted r (step_of v m)
unfolding stepping keep_of
halted_step r v m h =
    record {
      next = simp (h.next, h.hold, h.int);
      hold = simp (h.next, h.hold, h.int);
      int = simp (h.next, h.hold, h.int);
      regs = simp (h.next, h.hold, h.int, h.regs);
    }

-- no event acts
quiet : (r : Registers) (m : Machine) → Halted r m → Halted r (eventful_of [] m)
unfolding eventful_of with_lines levels_at
quiet r m h = record { next = h.next; hold = h.hold; int = h.int; regs = h.regs }

going : (r : Registers) (m : Machine) → Halted r m → stopped_of m.next ≡ false
unfolding stopped_of
going r m h = rw h.next

-- any number of halt states
halted_run : (r : Registers) (i : List ℕ) (n : ℕ) (w : World) → Halted r w.machine → Halted r (run_of [] i n w).machine
unfolding run_of state_of
halted_run r i zero w h = h
halted_run r i (suc n) w h =
    rw (going r w.machine h)
    (halted_run r i n (state_of i (eventful_of [] w.machine) w)
    (halted_step r _ (eventful_of [] w.machine) (quiet r w.machine h)))

-- so a run that is halted after k states has the same registers after any further n
pub halt_stops : (i : List ℕ) (k n : ℕ) (w : World) (r : Registers) → Halted r (run_of [] i k w).machine
    → (run_of [] i (k + n) w).machine.regs ≡ r
halt_stops i k n w r h = rw (run_plus [] i k n w) (halted_run r i n (run_of [] i k w) h).regs
