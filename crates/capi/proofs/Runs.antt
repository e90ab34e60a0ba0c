-- No run does more states than it is asked. Assumes nothing.
use Prim.Native.Nat.{ℕ, zero, suc, ◌+◌, ◌≤◌}
use mathlib.Core.Path.{◌≡◌}
use mathlib.Core.Bool.{Bool, true, false}
use mathlib.Core.List.{List}
use native.Mathlib.Omega.{arith}
use Rattle.laws.specs.Choice.{pick}
use Rattle.laws.proofs.Tests.{pick_both}
use Rattle.machine.specs.declared.record.Machine.{Machine}
use Rattle.machine.specs.Record.{stopped_of}
use Rattle.std.specs.Prelude.{Result, Ok, Err}
use Rattle.run.specs.declared.answer.Refusal.{Refusal}
use Rattle.run.specs.declared.answer.Ran.{Ran}
use Rattle.run.specs.declared.answer.Answer.{Answer}
use Rattle.run.specs.declared.answer.Answer.TheVariants.{Done, Stopped}
use Rattle.run.specs.Answer.{ran_of}
use Rattle.run.specs.Run.{World, state_of, run_of}
use Rattle.run.specs.Outcome.{start_of, verdict_of, ran_in, answered_of, answer_by, answer_of, Outcome}
use Rattle.run.proofs.Laws.{next_of}

-- n states from the world w count n at the most
few_next : (s inputs : List ℕ) (n k : ℕ) (w : World) → k ≤ (next_of s inputs w).states + n → k ≤ w.states + suc n
unfolding state_of
few_next s inputs n k w h = omega arith

pub run_few : (s inputs : List ℕ) (n : ℕ) (w : World) → (run_of s inputs n w).states ≤ w.states + n
unfolding run_of
run_few s inputs zero w = omega arith
run_few s inputs (suc n) w =
    pick_both (λ (u : World). u.states ≤ w.states + suc n) (stopped_of w.machine.next) w _ (λ e. omega arith)
    (λ e. few_next s inputs n _ w (run_few s inputs n (next_of s inputs w)))

-- done or stopped, an answer carries what was run
ended_ran : (b : Bool) (ran : Ran) → ran_of (pick b (Stopped ran) (Done ran)) ≡ ran
ended_ran true ran = cc
ended_ran false ran = cc

few_by : (v : Result (Unit {0}) Refusal) (after before : World) (k : ℕ) → after.states ≤ k → before.states ≤ k
    → (ran_of (answer_by v after before)).states ≤ k
unfolding answered_of
few_by (Ok good) after before k h l = rw (ended_ran (stopped_of after.machine.next) (ran_in after)) h
few_by (Err reason) after before k h l = l

-- and so does the answer of a run of n states
pub answer_few : (m : Machine) (x i o s l : List ℕ) (n k : ℕ) (a : Answer) (x' o' l' : List ℕ) → Outcome m x i o s l n a x' o' l'
    → n ≤ k → (ran_of a).states ≤ k
unfolding answer_of
answer_few m x i o s l n k a x' o' l' out h =
    let w = start_of m x o l in
    rw out.answer
    (few_by (verdict_of w i s n) (run_of s i n w) w k (omega (arith, run_few s i n w)) (omega arith))
