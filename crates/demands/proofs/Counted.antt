-- What a run counts, and the bytes of the trace that it does not reach. Assumes nothing.
use Prim.Native.Nat.{ℕ, zero, suc, ◌+◌, ◌*◌, ◌≤◌, ◌<◌}
use mathlib.Core.Path.{◌≡◌, refl, sym, ◌∙◌}
use mathlib.Core.Bool.{Bool, true, false, false≢true}
use mathlib.Core.List.{List}
use native.Mathlib.Omega.{arith}
use borrow.Author.Rules.{read_above}
use lib.ListN.{get_or, set}
use Rattle.laws.specs.Choice.{pick}
use Rattle.machine.specs.declared.record.Position.{Position}
use Rattle.machine.specs.declared.record.Position.TheVariants.{Fetch, Later, Wait, Hold, Halt, Stop}
use Rattle.machine.specs.declared.row.Row.{Row}
use Rattle.machine.specs.Record.{stopped_of}
use Rattle.run.specs.State.{put_row}
use Rattle.run.specs.Run.{World, state_of, run_of}
use Rattle.run.proofs.Laws.{next_of}

pub stop_is : (p : Position) → stopped_of p ≡ true → p ≡ Stop
unfolding stopped_of
stop_is Fetch e = absurd (false≢true e)
stop_is (Later c s) e = absurd (false≢true e)
stop_is (Wait c) e = absurd (false≢true e)
stop_is (Hold c) e = absurd (false≢true e)
stop_is Halt e = absurd (false≢true e)
stop_is Stop e = refl

pub goes_is : (p : Position) → (p ≡ Stop → ⊥) → stopped_of p ≡ false
unfolding stopped_of
goes_is Fetch f = refl
goes_is (Later c s) f = refl
goes_is (Wait c) f = refl
goes_is (Hold c) f = refl
goes_is Halt f = refl
goes_is Stop f = absurd (f refl)

-- a byte set does not reach past its place, and a row not past its eight bytes
set_rest : (l : List ℕ) (j v i : ℕ) → j < i → get_or (set l j v) i 0 ≡ get_or l i 0
set_rest l j v i h = read_above ℕ l j i v 0 (get_or l i 0) h refl

row_rest : (l : List ℕ) (at : ℕ) (r : Row) (i : ℕ) → at + 8 ≤ i → get_or (put_row l at r) i 0 ≡ get_or l i 0
unfolding put_row
row_rest l at r i h =
    let l₁ = set l at r.state in
    let l₂ = set l₁ (at + 1) r.kind in
    let l₃ = set l₂ (at + 2) r.low in
    let l₄ = set l₃ (at + 3) r.high in
    let l₅ = set l₄ (at + 4) r.byte in
    let l₆ = set l₅ (at + 5) r.status in
    let l₇ = set l₆ (at + 6) r.cycle in
    set_rest l₇ (at + 7) r.levels i (omega arith)
    ∙ set_rest l₆ (at + 6) r.cycle i (omega arith)
    ∙ set_rest l₅ (at + 5) r.status i (omega arith)
    ∙ set_rest l₄ (at + 4) r.byte i (omega arith)
    ∙ set_rest l₃ (at + 3) r.high i (omega arith)
    ∙ set_rest l₂ (at + 2) r.low i (omega arith)
    ∙ set_rest l₁ (at + 1) r.kind i (omega arith)
    ∙ set_rest l at r.state i (omega arith)

module _ (s inputs : List ℕ) where
  pub next_count : (w : World) → (next_of s inputs w).states ≡ w.states + 1
  unfolding state_of
  next_count w = refl

  -- a run that does not stop counts the states asked
  count_step : (b : Bool) (n : ℕ) (w v : World) → stopped_of w.machine.next ≡ b
      → (stopped_of v.machine.next ≡ false → v.states ≡ w.states + suc n)
      → stopped_of (pick b w v).machine.next ≡ false → (pick b w v).states ≡ w.states + suc n
  count_step true n w v e f g = absurd (false≢true (sym g ∙ e))
  count_step false n w v e f g = f g

  pub run_count : (n : ℕ) (w : World) → stopped_of (run_of s inputs n w).machine.next ≡ false
      → (run_of s inputs n w).states ≡ w.states + n
  unfolding run_of
  run_count zero w h = omega arith
  run_count (suc n) w h =
      count_step (stopped_of w.machine.next) n w (run_of s inputs n (next_of s inputs w)) refl
      (λ g. let e = run_count n (next_of s inputs w) g in let a = next_count w in omega (arith, e, a)) h

  -- it never counts back
  pick_up : (b : Bool) (w v : World) → w.states ≤ v.states → w.states ≤ (pick b w v).states
  pick_up true w v h = omega arith
  pick_up false w v h = h

  run_up : (n : ℕ) (w : World) → w.states ≤ (run_of s inputs n w).states
  unfolding run_of
  run_up zero w = omega arith
  run_up (suc n) w =
      pick_up (stopped_of w.machine.next) w (run_of s inputs n (next_of s inputs w))
      (let u = run_up n (next_of s inputs w) in let a = next_count w in omega (arith, u, a))

  -- the trace past the rows of the states counted is as it was
  next_rest : (w : World) (i : ℕ) → 8 * w.states + 8 ≤ i → get_or (next_of s inputs w).trace i 0 ≡ get_or w.trace i 0
  unfolding state_of
  next_rest w i h = row_rest w.trace (8 * w.states) _ i h

  rest_step : (b : Bool) (i : ℕ) (w v : World) → (8 * v.states ≤ i → get_or v.trace i 0 ≡ get_or w.trace i 0)
      → 8 * (pick b w v).states ≤ i → get_or (pick b w v).trace i 0 ≡ get_or w.trace i 0
  rest_step true i w v f h = refl
  rest_step false i w v f h = f h

  pub run_rest : (n : ℕ) (w : World) (i : ℕ) → 8 * (run_of s inputs n w).states ≤ i
      → get_or (run_of s inputs n w).trace i 0 ≡ get_or w.trace i 0
  unfolding run_of
  run_rest zero w i h = refl
  run_rest (suc n) w i h =
      rest_step (stopped_of w.machine.next) i w (run_of s inputs n (next_of s inputs w))
      (λ l. run_rest n (next_of s inputs w) i l
      ∙ next_rest w i (let u = run_up n (next_of s inputs w) in let a = next_count w in omega (arith, u, a, l))) h
