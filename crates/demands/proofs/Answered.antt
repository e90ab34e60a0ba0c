-- What a call that is answered with 0 or 10 says of its arguments and its states. Assumes nothing.
use Rattle.std.specs.Prelude.{Result, Ok, Err}
use Prim.Native.Nat.{ℕ, ◌+◌, ◌*◌, ◌≤◌}
use mathlib.Core.Path.{◌≡◌, refl}
use mathlib.Core.Bool.{Bool, true, false}
use mathlib.Core.List.{List}
use native.Mathlib.Omega.{arith}
use lib.Dec.{T}
use lib.ListN.{length}
use Rattle.laws.specs.Choice.{pick}
use Rattle.laws.proofs.Tests.{true→T}
use Rattle.machine.specs.Record.{stopped_of}
use Rattle.machine.specs.Well.{well_of}
use Rattle.run.specs.declared.answer.Refusal.{Refusal}
use Rattle.run.specs.declared.answer.Ran.{Ran}
use Rattle.run.specs.declared.answer.Answer.{Answer}
use Rattle.run.specs.declared.answer.Answer.TheVariants.{Done, Stopped, Refused}
use Rattle.run.specs.Run.{World, run_of}
use Rattle.run.specs.Outcome.{verdict_of, ran_in, answered_of, answer_by, answer_of}
use Rattle.run.proofs.Passed.{check_fit, check_well}

-- a run that answers with 0 or 10 has passed the tests, has not stopped or has, and answers what its states did
pub record Good (stopped : Bool) (w : World) (inputs s : List ℕ) (n : ℕ) (r : Ran) : Type 0 where
  pub verdict : verdict_of w inputs s n ≡ Ok tt
  pub ends : stopped_of (run_of s inputs n w).machine.next ≡ stopped
  pub ran : r ≡ ran_in (run_of s inputs n w)

-- the answer of a run that has stopped or has not
abbrev pub answering : Bool → Ran → Answer
answering stopped r = pick stopped (Stopped r) (Done r)

ended_as : (b c : Bool) (x r : Ran) → answering b x ≡ answering c r → (b ≡ c) × (r ≡ x)
ended_as true true x r e = (refl, (cc))
ended_as true false x r e = absurd (let z : ◌≡◌ {A = ℕ} 0 1 = cc in let no : ⊥ = omega arith in no)
ended_as false true x r e = absurd (let z : ◌≡◌ {A = ℕ} 0 1 = cc in let no : ⊥ = omega arith in no)
ended_as false false x r e = (refl, (cc))

refused : {A : Type 0} (q : Refusal) (c : Bool) (x r : Ran) → Refused q x ≡ answering c r → A
refused q true x r e = absurd (let z : ◌≡◌ {A = ℕ} 0 1 = cc in let no : ⊥ = omega arith in no)
refused q false x r e = absurd (let z : ◌≡◌ {A = ℕ} 0 1 = cc in let no : ⊥ = omega arith in no)

by_verdict : (v : Result (Unit {0}) Refusal) (c : Bool) (w x : World) (r : Ran) → answer_by v x w ≡ answering c r
    → (v ≡ Ok tt) × (stopped_of x.machine.next ≡ c) × (r ≡ ran_in x)
unfolding answered_of
by_verdict (Ok u) c w x r e =
    let (f, g) = ended_as (stopped_of x.machine.next) c (ran_in x) r e in (refl, f, g)
by_verdict (Err q) c w x r e = refused q c (ran_in w) r e

module _ (w : World) (inputs s : List ℕ) (n : ℕ) where
  pub answer_good : (stopped : Bool) (r : Ran) → answer_of w inputs s n ≡ answering stopped r → Good stopped w inputs s n r
  unfolding answer_of
  answer_good stopped r e =
      let (f, g, h) = by_verdict (verdict_of w inputs s n) stopped w (run_of s inputs n w) r e in
      record { verdict = f; ends = g; ran = h }

  -- what the tests say
  pub good_time : verdict_of w inputs s n ≡ Ok tt → w.machine.clock + n ≤ 4294967295
  unfolding verdict_of
  good_time e = (check_fit w.machine w.memory inputs w.outputs s w.trace n e).time

  pub good_room : verdict_of w inputs s n ≡ Ok tt → 8 * n ≤ length w.trace
  unfolding verdict_of
  good_room e = (check_fit w.machine w.memory inputs w.outputs s w.trace n e).room

  pub good_well : verdict_of w inputs s n ≡ Ok tt → T (well_of w.machine)
  unfolding verdict_of
  good_well e = true→T (well_of w.machine) (check_well w.machine _ _ _ s _ n e)
