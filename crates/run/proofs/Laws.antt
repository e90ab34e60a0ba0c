-- Laws of `run_of`: no states, a stop, one state more, and a run in two parts; and of a run by its verdict.
-- Assumes nothing.
use Prim.Native.Nat.{ℕ, zero, suc, ◌+◌, ◌-◌, ◌≤◌, ◌<◌}
use mathlib.Core.Path.{◌≡◌, refl, sym}
use mathlib.Core.Bool.{Bool, true, false}
use mathlib.Core.List.{List}
use native.Mathlib.Omega.{arith}
use native.Mathlib.Nat.{zero-add, suc-add}
use Rattle.std.specs.Prelude.{Ok, Err}
use Rattle.laws.specs.Choice.{pick}
use Rattle.machine.specs.Record.{stopped_of}
use Rattle.run.specs.declared.answer.Refusal.{Refusal}
use Rattle.run.specs.declared.answer.Answer.TheVariants.{Refused}
use Rattle.run.specs.Outcome.{verdict_of, left_of, ran_in, answered_of, answer_of}
use Rattle.run.specs.Run.{World, eventful_of, state_of, run_of}

suc_less : (n : ℕ) → suc n - 1 ≡ n
suc_less n = omega arith

module _ (s inputs : List ℕ) where
  -- the world after the next state
  abbrev pub next_of : World → World
  next_of w = state_of inputs (eventful_of s w.machine) w

  pub run_none : (n : ℕ) (w : World) → n ≤ 0 → run_of s inputs n w ≡ w
  unfolding run_of
  run_none zero w h = refl
  run_none (suc n) w h = absurd (let no : ⊥ = omega arith in no)

  -- a stopped machine does no state
  pub run_stopped : (n : ℕ) (w : World) → stopped_of w.machine.next ≡ true → run_of s inputs n w ≡ w
  unfolding run_of
  run_stopped zero w h = refl
  run_stopped (suc n) w h = simp h

  -- one state, and the rest
  pub run_more : (n : ℕ) (w : World) → 0 < n → stopped_of w.machine.next ≡ false
      → run_of s inputs (n - 1) (next_of w) ≡ run_of s inputs n w
  unfolding run_of
  run_more zero w h f = absurd (let no : ⊥ = omega arith in no)
  run_more (suc n) w h f = simp (f, suc_less n)

  plus_step : (b : Bool) (n : ℕ) (w x y : World) → (b ≡ true → run_of s inputs n w ≡ w) → x ≡ run_of s inputs n y
      → pick b w x ≡ run_of s inputs n (pick b w y)
  plus_step true n w x y f e = sym (f refl)
  plus_step false n w x y f e = e

  -- a run of m + n states is a run of m states and then of n
  pub run_plus : (m n : ℕ) (w : World) → run_of s inputs (m + n) w ≡ run_of s inputs n (run_of s inputs m w)
  unfolding run_of
  run_plus zero n w = rw zero-add
  run_plus (suc m) n w =
      rw suc-add
      (plus_step (stopped_of w.machine.next) n w _ _ (λ h. run_stopped n w h) (run_plus m n (next_of w)))

module _ (w : World) (inputs s : List ℕ) (n : ℕ) where
  -- a run that passes the tests leaves and answers what its states do
  pub good_left : verdict_of w inputs s n ≡ Ok tt → left_of w inputs s n ≡ run_of s inputs n w
  unfolding left_of
  good_left e = rw e

  pub good_answer : verdict_of w inputs s n ≡ Ok tt → answer_of w inputs s n ≡ answered_of (ran_in (run_of s inputs n w))
  unfolding answer_of
  good_answer e = rw e

  -- and one that is refused leaves everything as it was, and no state is done
  pub refused_left : (r : Refusal) → verdict_of w inputs s n ≡ Err r → left_of w inputs s n ≡ w
  unfolding left_of
  refused_left r e = rw e

  pub refused_answer : (r : Refusal) → verdict_of w inputs s n ≡ Err r → answer_of w inputs s n ≡ Refused r (ran_in w)
  unfolding answer_of
  refused_answer r e = rw e
