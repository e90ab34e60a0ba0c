-- What a run leaves and answers. Source: document 01, "Numbers returned". Cited by the public `run`.
use Rattle.std.specs.Prelude.{ℕ, ◌≡◌, List, length, Result, Ok, Err}
use Rattle.laws.specs.Choice.{pick}
use Rattle.machine.specs.declared.record.Machine.{Machine}
use Rattle.machine.specs.Record.{stopped_of}
use Rattle.run.specs.declared.answer.Refusal.{Refusal}
use Rattle.run.specs.declared.answer.Ran.{Ran}
use Rattle.run.specs.declared.answer.Answer.{Answer}
use Rattle.run.specs.declared.answer.Answer.TheVariants.{Done, Stopped, Refused}
use Rattle.run.specs.Run.{World, run_of}
use Rattle.run.specs.Check.{check_of}

-- the world before a run
abbrev pub start_of : Machine → List ℕ → List ℕ → List ℕ → World
start_of m memory outputs trace = record { machine = m; memory = memory; outputs = outputs; trace = trace; states = 0 }

-- the verdict on a run of n states from the world w
unfoldable pub verdict_of : World → List ℕ → List ℕ → ℕ → Result (Unit {0}) Refusal
verdict_of w inputs s n =
    check_of w.machine (length w.memory) (length inputs) (length w.outputs) s (length w.trace) n

-- what such a run leaves: the states, or after a refusal everything as it was
abbrev pub left_by : Result (Unit {0}) Refusal → World → World → World
left_by (Ok u) after before = after
left_by (Err reason) after before = before

unfoldable pub left_of : World → List ℕ → List ℕ → ℕ → World
left_of w inputs s n = left_by (verdict_of w inputs s n) (run_of s inputs n w) w

-- the machine and the states of a world
abbrev pub ran_in : World → Ran
ran_in w = record { machine = w.machine; states = w.states }

-- done or stopped
unfoldable pub answered_of : Ran → Answer
answered_of ran = pick (stopped_of ran.machine.next) (Stopped ran) (Done ran)

-- what a run answers
abbrev pub answer_by : Result (Unit {0}) Refusal → World → World → Answer
answer_by (Ok u) after before = answered_of (ran_in after)
answer_by (Err reason) after before = Refused reason (ran_in before)

unfoldable pub answer_of : World → List ℕ → List ℕ → ℕ → Answer
answer_of w inputs s n = answer_by (verdict_of w inputs s n) (run_of s inputs n w) w

-- the whole of a run of n states of the machine m over memory x, input ports i, output ports o, the schedule s and the trace
-- l: the answer r, and x', o' and l' afterwards
pub record Outcome (m : Machine) (x i o s l : List ℕ) (n : ℕ) (r : Answer) (x' o' l' : List ℕ) : Type 0 where
  pub answer : r ≡ answer_of (start_of m x o l) i s n
  pub memory : x' ≡ (left_of (start_of m x o l) i s n).memory
  pub outputs : o' ≡ (left_of (start_of m x o l) i s n).outputs
  pub trace : l' ≡ (left_of (start_of m x o l) i s n).trace
