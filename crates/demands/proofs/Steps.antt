-- One state of a board, and many, over levels that are functions of the state's number and a clock that has no end. Here
-- cycles count from 0. Assumes nothing.
use Prim.Native.Nat.{ℕ, zero, suc, ◌+◌}
use mathlib.Core.Path.{◌≡◌, refl, ap, ◌∙◌}
use mathlib.Core.Bool.{Bool, true, false}
use lib.Dec.{eqb}
use Rattle.laws.specs.Choice.{pick}
use Rattle.opcodes.specs.Cycles.{code_of}
use Rattle.opcodes.specs.Kinds.{states_of}
use Rattle.opcodes.specs.declared.cycle.Acknowledge.TheVariants.{Running, Halted}
use Rattle.effect.specs.declared.registers.Registers.{Registers}
use Rattle.effect.specs.Effect.{effect_of}
use Rattle.machine.specs.declared.record.Position.{Position}
use Rattle.machine.specs.declared.record.Position.TheVariants.{Fetch, Later, Hold, Halt}
use Rattle.machine.specs.declared.record.Machine.{Machine}
use Rattle.machine.specs.Record.{with_next, with_regs, with_kept, with_lines, with_clock, stopped_of}
use Rattle.machine.specs.Cycle.{after_of, cycles_of, cycle_of}
use Rattle.machine.specs.Ending.{takes_of, acknowledge_of, clear_of, is_hlt, ended_of, follow_of, hold_of, end_of}
use Rattle.machine.specs.Step.{wait_of, second_of, fetched_of, onward_of, took_of, from_third, later_of, moved_of}
use Rattle.machine.specs.Look.{place_of, stands_of, shown_of, look_at, look_of}
use Rattle.machine.specs.Request.{request_of}
use Rattle.run.specs.State.{asked, heard, byte_on, memory_after, outputs_after}
use Rattle.demands.specs.Outside.{Outside, Moment}
use Rattle.demands.proofs.Work.{Work, here}
use Rattle.demands.specs.Board.{Board}

-- the machine m in its next state, with the levels of that state
unfoldable pub driven : Outside → Machine → Machine
driven E m =
    with_lines
    (record { ready = E.ready m.clock; hold = E.hold m.clock; int = E.int m.clock m.lines.int })
    m

-- one state of the machine m, which has those levels, over the memory and the output ports of b
abbrev pub state_from : Outside → Machine → Board → Board
state_from E m b =
    record {
      machine = with_clock (m.clock + 1) (moved_of m.next (heard m b.memory E.inputs) m);
      memory = memory_after (asked m) b.memory;
      outputs = outputs_after (asked m) b.outputs;
    }

unfoldable pub step : Outside → Board → Board
step E b = state_from E (driven E b.machine) b

-- n states, or fewer where the machine stops
unfoldable pub run : Outside → ℕ → Board → Board
run E zero b = b
run E (suc n) b = pick (stopped_of b.machine.next) b (run E n (step E b))

-- the cycle's code, its number of states, and the number of the cycle after it
abbrev pub size : ℕ → ℕ → ℕ
size c op = states_of (code_of op (suc c))

abbrev pub next : ℕ → ℕ → Registers → ℕ
next c op r = after_of (cycles_of op r.f) (suc c)

-- the work at the end of a cycle: after the last, the instruction's effect
abbrev pub ended : ℕ → Work → Work
ended c d =
    record {
      regs = pick (eqb (next c d.kept.opcode d.regs) 0) (effect_of d.kept d.regs) d.regs;
      kept = d.kept;
      memory = d.memory;
      outputs = d.outputs;
    }

-- the board with the machine m
abbrev pub with : Work → Machine → Board
with d m = record { machine = m; memory = d.memory; outputs = d.outputs }

-- the last state of cycle c is done, and then its holds are over
abbrev pub Ending : ℕ → ℕ → Position → Work → Moment → Board
Ending c n p d t = with d (end_of (suc c) n (here d p t).machine)

abbrev pub Done : ℕ → Work → Moment → Board
Done c d t =
    with d (follow_of (next c d.kept.opcode d.regs) (here (ended c d) (Hold (suc c)) t).machine)

-- one name that opens a state
unfoldable pub opening : ℕ
unfolding step driven with_next with_regs with_kept with_lines with_clock cycle_of wait_of second_of fetched_of onward_of took_of from_third
    later_of moved_of place_of stands_of shown_of look_at look_of request_of byte_on memory_after outputs_after
opening = 0

-- a function of a choice
pub pick_ap : {A B : Type 0} (f : A → B) (b : Bool) (x y : A) → f (pick b x y) ≡ pick b (f x) (f y)
pick_ap f true x y = refl
pick_ap f false x y = refl

-- the clock plays no part in how a cycle ends
pub ended_clock : (u : ℕ) (m : Machine) → with_clock u (ended_of m) ≡ ended_of (with_clock u m)
unfolding ended_of acknowledge_of clear_of takes_of with_clock
ended_clock u m =
    pick_ap (with_clock u) (takes_of m) (acknowledge_of (pick (is_hlt m) Halted Running) m) (clear_of (pick (is_hlt m) Halt Fetch) m)

pub follow_clock : (u n : ℕ) (m : Machine) → with_clock u (follow_of n m) ≡ follow_of n (with_clock u m)
unfolding follow_of with_next with_clock
follow_clock u n m =
    pick_ap (with_clock u) (eqb n 0) (ended_of m) (with_next (Later n 1) m)
    ∙ ap (λ (x : Machine). pick (eqb n 0) x (with_next (Later n 1) (with_clock u m))) (ended_clock u m)

pub hold_clock : (u c n : ℕ) (m : Machine) → with_clock u (hold_of c n m) ≡ hold_of c n (with_clock u m)
unfolding hold_of with_next with_clock
hold_clock u c n m =
    pick_ap (with_clock u) (eqb m.lines.hold 1) (with_next (Hold c) m) (follow_of n m)
    ∙ ap (λ (x : Machine). pick (eqb m.lines.hold 1) (with_next (Hold c) (with_clock u m)) x) (follow_clock u n m)

pub end_clock : (u c n : ℕ) (m : Machine) → with_clock u (end_of c n m) ≡ end_of c n (with_clock u m)
unfolding end_of with_regs with_clock
end_clock u c n m = hold_clock u c n (with_regs (pick (eqb n 0) (effect_of m.kept m.regs) m.regs) m)
