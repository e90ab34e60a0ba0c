-- The trace shows each state as it was. Assumes nothing.
use Prim.Native.Nat.{ℕ, zero, suc, ◌+◌, ◌*◌, ◌≤◌, ◌<◌}
use mathlib.Core.Path.{◌≡◌, refl, sym, ap, ◌∙◌, subst}
use mathlib.Core.Bool.{Bool, true, false}
use mathlib.Core.List.{List}
use mathlib.Core.Logic.{⊎_elim}
use native.Mathlib.Omega.{arith}
use lib.ListN.{length}
use Rattle.laws.specs.Choice.{pick}
use Rattle.machine.specs.Record.{stopped_of}
use Rattle.run.specs.Run.{World, eventful_of, state_of, run_of}
use Rattle.run.proofs.Laws.{run_stopped, good_left}
use Rattle.demands.specs.Trace.{row_in, shown_by, TraceShows}
use Rattle.demands.proofs.Stretches.{bool}
use Rattle.demands.proofs.Answered.{good_room}
use Rattle.demands.proofs.Putting.{put_length, row_put, row_kept}

module _ (s inputs : List ℕ) where
  abbrev next : World → World
  next w = state_of inputs (eventful_of s w.machine) w

  -- the rows after one state
  next_row : (w : World) → 8 * w.states + 8 ≤ length w.trace → row_in (next w).trace w.states ≡ shown_by s inputs w
  unfolding state_of shown_by
  next_row w h = row_put w.trace w.states _ h

  next_kept : (w : World) (j : ℕ) → j < w.states → row_in (next w).trace j ≡ row_in w.trace j
  unfolding state_of
  next_kept w j h = row_kept w.trace j w.states _ h

  next_length : (w : World) → length (next w).trace ≡ length w.trace
  unfolding state_of
  next_length w = put_length w.trace (8 * w.states) _

  next_count : (w : World) → (next w).states ≡ w.states + 1
  unfolding state_of
  next_count w = refl

  -- rows that are there stay
  kept_pick : (b : Bool) (w x : World) (j : ℕ) → row_in x.trace j ≡ row_in w.trace j → row_in (pick b w x).trace j ≡ row_in w.trace j
  kept_pick true w x j e = refl
  kept_pick false w x j e = e

  rows_kept : (n : ℕ) (w : World) (j : ℕ) → j < w.states → row_in (run_of s inputs n w).trace j ≡ row_in w.trace j
  unfolding run_of
  rows_kept zero w j h = refl
  rows_kept (suc n) w j h =
      kept_pick (stopped_of w.machine.next) w (run_of s inputs n (next w)) j
      (rows_kept n (next w) j (let c = next_count w in omega arith) ∙ next_kept w j h)

  run_on : (n : ℕ) (w : World) → stopped_of w.machine.next ≡ false → run_of s inputs (suc n) w ≡ run_of s inputs n (next w)
  unfolding run_of
  run_on n w f = rw f

  -- and the others are what the states show
  one_shown : (n : ℕ) (w : World) (j i : ℕ) → i ≡ w.states + j → 8 * (w.states + suc n) ≤ length w.trace
      → stopped_of w.machine.next ≡ false
      → ((k : ℕ) → i ≡ (next w).states + k → row_in (run_of s inputs n (next w)).trace i ≡ shown_by s inputs (run_of s inputs k (next w)))
      → row_in (run_of s inputs n (next w)).trace i ≡ shown_by s inputs (run_of s inputs j w)
  unfolding run_of
  one_shown n w zero i e r f rec =
      let q : i ≡ w.states = omega arith in
      let c = next_count w in
      rows_kept n (next w) i (omega arith) ∙ ap (row_in (next w).trace) q ∙ next_row w (omega arith)
  one_shown n w (suc j) i e r f rec =
      rec j (let c = next_count w in omega arith) ∙ ap (shown_by s inputs) (sym (run_on j w f))

  rows_shown : (n : ℕ) (w : World) (j i : ℕ) → i ≡ w.states + j → 8 * (w.states + n) ≤ length w.trace
      → i < (run_of s inputs n w).states → row_in (run_of s inputs n w).trace i ≡ shown_by s inputs (run_of s inputs j w)
  unfolding run_of
  rows_shown zero w j i e r l = absurd (let z : ⊥ = omega arith in z)
  rows_shown (suc n) w j i e r l =
      ⊎_elim
      (λ (f : stopped_of w.machine.next ≡ true).
      absurd
      (let q : i < w.states = subst (λ (x : World). i < x.states) (run_stopped s inputs (suc n) w f) l in
      let z : ⊥ = omega arith in z))
      (λ (f : stopped_of w.machine.next ≡ false).
      let q : i < (run_of s inputs n (next w)).states = subst (λ (x : World). i < x.states) (run_on n w f) l in
      let c = next_count w in
      let t = next_length w in
      ap (λ (x : World). row_in x.trace i) (run_on n w f)
      ∙ one_shown n w j i e r f (λ k p. rows_shown n (next w) k i p (omega arith) q))
      (bool (stopped_of w.machine.next))

pub trace_shows : TraceShows
trace_shows w inputs s n z g j l =
    let e = good_left w inputs s n g in
    let r = good_room w inputs s n g in
    ap (λ (x : World). row_in x.trace j) e
    ∙ rows_shown s inputs n w j j (omega arith) (omega arith) (subst (λ (x : World). j < x.states) e l)
