-- A row put into the trace is there, and the rows before it stay. Assumes nothing.
use Prim.Native.Nat.{ℕ, zero, suc, ◌+◌, ◌*◌, ◌≤◌, ◌<◌}
use mathlib.Core.Path.{◌≡◌, refl, ap, ◌∙◌}
use mathlib.Core.List.{List, [], ◌∷◌}
use native.Mathlib.Omega.{arith}
use lib.ListN.{length, get_or, set, length-set}
use lib.Seq.{get_or-set_same, get_or-set_other}
use Rattle.machine.specs.declared.row.Row.{Row}
use Rattle.run.specs.State.{put_row}
use Rattle.demands.specs.Trace.{row_in}

-- the list l with values from the place at + k on
abbrev written : List ℕ → ℕ → ℕ → List ℕ → List ℕ
written l at k [] = l
written l at k (v ∷ vs) = written (set l (at + k) v) at (suc k) vs

-- what stands before them, and each of them
written_before : (vs l : List ℕ) (at k i : ℕ) → i < at + k → get_or (written l at k vs) i 0 ≡ get_or l i 0
written_before [] l at k i h = refl
written_before (v ∷ vs) l at k i h =
    written_before vs (set l (at + k) v) at (suc k) i (omega arith)
    ∙ get_or-set_other l (at + k) i v 0 (λ e. omega arith)

written_at : (vs l : List ℕ) (at k j : ℕ) → j < length vs → at + k + length vs ≤ length l
    → get_or (written l at k vs) (at + (k + j)) 0 ≡ get_or vs j 0
written_at [] l at k j h r = absurd (let z : ⊥ = omega arith in z)
written_at (v ∷ vs) l at k zero h r =
    written_before vs (set l (at + k) v) at (suc k) (at + (k + 0)) (omega arith)
    ∙ ap (λ (i : ℕ). get_or (set l (at + k) v) i 0) (let e : at + (k + 0) ≡ at + k = omega arith in e)
    ∙ get_or-set_same l (at + k) v 0 (omega arith)
written_at (v ∷ vs) l at k (suc j) h r =
    ap (λ (i : ℕ). get_or (written (set l (at + k) v) at (suc k) vs) i 0)
    (let e : at + (k + suc j) ≡ at + (suc k + j) = omega arith in e)
    ∙ written_at vs (set l (at + k) v) at (suc k) j (omega arith)
    (let e = length-set l (at + k) v in omega arith)

-- a row and the rows before it
rest : Row → List ℕ
rest r = r.kind ∷ r.low ∷ r.high ∷ r.byte ∷ r.status ∷ r.cycle ∷ r.levels ∷ []

module _ (l : List ℕ) (at : ℕ) (r : Row) where
  put_is : put_row l at r ≡ written (set l at r.state) at 1 (rest r)
  unfolding put_row rest
  put_is = refl

  put_before : (i : ℕ) → i < at → get_or (put_row l at r) i 0 ≡ get_or l i 0
  put_before i h =
      ap (λ (x : List ℕ). get_or x i 0) put_is
      ∙ written_before (rest r) (set l at r.state) at 1 i (omega arith)
      ∙ get_or-set_other l at i r.state 0 (λ e. omega arith)

  put_first : at + 8 ≤ length l → get_or (put_row l at r) at 0 ≡ r.state
  put_first h =
      ap (λ (x : List ℕ). get_or x at 0) put_is
      ∙ written_before (rest r) (set l at r.state) at 1 at (omega arith)
      ∙ get_or-set_same l at r.state 0 (omega arith)

  put_at_lem : (j : ℕ) → j < 7 → at + 8 ≤ length l → get_or (put_row l at r) (at + (1 + j)) 0 ≡ get_or (rest r) j 0
  unfolding rest
  put_at_lem j h k =
      ap (λ (x : List ℕ). get_or x (at + (1 + j)) 0) put_is
      ∙ written_at (rest r) (set l at r.state) at 1 j (omega arith)
      (let e = length-set l at r.state in omega arith)

  pub put_length : length (put_row l at r) ≡ length l
  unfolding put_row
  put_length = simp length-set

-- row k of the trace, and a row before it
pub row_put : (l : List ℕ) (k : ℕ) (r : Row) → 8 * k + 8 ≤ length l → row_in (put_row l (8 * k) r) k ≡ r
unfolding rest
row_put l k r h =
    λ i.
    record {
      state = put_first l (8 * k) r h i;
      kind = put_at_lem l (8 * k) r 0 (omega arith) h i;
      low = put_at_lem l (8 * k) r 1 (omega arith) h i;
      high = put_at_lem l (8 * k) r 2 (omega arith) h i;
      byte = put_at_lem l (8 * k) r 3 (omega arith) h i;
      status = put_at_lem l (8 * k) r 4 (omega arith) h i;
      cycle = put_at_lem l (8 * k) r 5 (omega arith) h i;
      levels = put_at_lem l (8 * k) r 6 (omega arith) h i;
    }

pub row_kept : (l : List ℕ) (j k : ℕ) (r : Row) → j < k → row_in (put_row l (8 * k) r) j ≡ row_in l j
row_kept l j k r h =
    λ i.
    record {
      state = put_before l (8 * k) r (8 * j) (omega arith) i;
      kind = put_before l (8 * k) r (8 * j + 1) (omega arith) i;
      low = put_before l (8 * k) r (8 * j + 2) (omega arith) i;
      high = put_before l (8 * k) r (8 * j + 3) (omega arith) i;
      byte = put_before l (8 * k) r (8 * j + 4) (omega arith) i;
      status = put_before l (8 * k) r (8 * j + 5) (omega arith) i;
      cycle = put_before l (8 * k) r (8 * j + 6) (omega arith) i;
      levels = put_before l (8 * k) r (8 * j + 7) (omega arith) i;
    }
