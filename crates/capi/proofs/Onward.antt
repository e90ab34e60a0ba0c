-- From call to call: the record that a call leaves holds the machine that the definition leaves, so that the next call goes on
-- with it. Assumes nothing.
use Prim.Native.Nat.{ℕ}
use mathlib.Core.Path.{◌≡◌, refl, sym, ap, ◌∙◌}
use mathlib.Core.Bool.{Bool, true, false, false≢true}
use mathlib.Core.List.{List}
use native.Mathlib.Omega.{arith}
use lib.Dec.{eqb}
use lib.ListN.{length}
use borrow.Author.Tests.{eqb-true}
use Rattle.laws.specs.Choice.{pick}
use Rattle.machine.specs.Record.{cold_of, stopped_of}
use Rattle.machine.specs.Well.{well_of}
use Rattle.machine.specs.Step.{step_of}
use Rattle.run.specs.declared.answer.Refusal.{Refusal}
use Rattle.std.specs.Prelude.{Result, Ok, Err}
use Rattle.run.specs.declared.answer.Ran.{Ran}
use Rattle.run.specs.declared.answer.Answer.TheVariants.{Done, Stopped}
use Rattle.run.specs.Run.{World, run_of}
use Rattle.run.specs.Outcome.{start_of, verdict_of, left_by, left_of, ran_in, answered_of, answer_by, answer_of}
use Rattle.run.proofs.Passed.{check_well}
use Rattle.capi.specs.Flat.{record_with}
use Rattle.capi.specs.Handed.{handed_of}
use Rattle.capi.specs.Numbers.{step_number}
use Rattle.capi.specs.Calls.{record_by, ColdCall, StepCall, RunCall}
use Rattle.capi.proofs.Back.{handed_record, malformed_ill}

-- a well-formed record has 64 bytes
well_size : (z : List ℕ) → well_of (handed_of z) ≡ true → length z ≡ 64
well_size z w = sized (eqb (length z) 64) refl
  where
    sized : (b : Bool) → eqb (length z) 64 ≡ b → length z ≡ 64
    sized true e = eqb-true (length z) 64 e
    sized false e = absurd (false≢true (sym (malformed_ill z (rw e)) ∙ w))

pub cold_left : (z : List ℕ) (r : ℕ) (z' : List ℕ) → length z ≡ 64 → ColdCall z r z' → handed_of z' ≡ cold_of
cold_left z r z' e c = ap handed_of c.machine ∙ handed_record z cold_of e

-- a step that is not refused has a well-formed record
step_well : (b : Bool) (n : ℕ) → pick b n 8 ≡ 0 → b ≡ true
step_well true n e = refl
step_well false n e = absurd (let no : ⊥ = omega arith in no)

pub step_left : (z : List ℕ) (v r : ℕ) (z' : List ℕ) → StepCall z v r z' → r ≡ 0 → handed_of z' ≡ step_of v (handed_of z)
unfolding step_number
step_left z v r z' c e =
    let none : step_number (handed_of z) ≡ 0 = sym c.answer ∙ e in
    let left : z' ≡ record_with z (step_of v (handed_of z)) = rw none at c.machine in
    ap handed_of left
    ∙ handed_record z (step_of v (handed_of z)) (well_size z (step_well (well_of (handed_of z)) _ none))

-- done or stopped, the machine goes into the record
ended_record : (b : Bool) (ran : Ran) (z : List ℕ) → record_by (pick b (Stopped ran) (Done ran)) z ≡ record_with z ran.machine
ended_record true ran z = refl
ended_record false ran z = refl

left_by_lem : (v : Result (Unit {0}) Refusal) (after before : World) (z : List ℕ) → (v ≡ Ok tt → length z ≡ 64) → handed_of z ≡ before.machine
    → handed_of (record_by (answer_by v after before) z) ≡ (left_by v after before).machine
unfolding answered_of
left_by_lem (Ok good) after before z f e =
    ap handed_of (ended_record (stopped_of after.machine.next) (ran_in after) z)
    ∙ handed_record z after.machine (f refl)
left_by_lem (Err reason) after before z f e = e

pub run_left : (z : List ℕ) (n : ℕ) (x i o s l : List ℕ) (r : ℕ) (z' x' o' l' : List ℕ) → RunCall z n x i o s l r z' x' o' l'
    → handed_of z' ≡ (left_of (start_of (handed_of z) x o l) i s n).machine
unfolding answer_of left_of verdict_of
run_left z n x i o s l r z' x' o' l' c =
    let w = start_of (handed_of z) x o l in
    ap handed_of c.machine
    ∙ left_by_lem (verdict_of w i s n) (run_of s i n w) w z (λ e. well_size z (check_well _ _ _ _ _ _ _ e)) refl
