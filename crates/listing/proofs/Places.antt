-- A listing told by places in the trace, state by state, is the one that specs/Listing tells by rows: for every trace, number of
-- states, A and PC. Assumes nothing.
use Prim.Native.Nat.{ℕ, zero, suc, ◌+◌, ◌*◌, ◌/◌, ◌≤◌, min}
use mathlib.Core.Path.{◌≡◌, refl, sym, ap, ◌∙◌}
use mathlib.Core.Bool.{Bool, true, false}
use mathlib.Core.List.{List, [], ◌∷◌, ◌++◌}
use native.Mathlib.Omega.{arith}
use lib.ListN.{length, get_or, take, drop}
use lib.Seq.{get_or-drop}
use lib.Dec.{eqb}
use Rattle.std.specs.Prelude.{not, ◌==◌}
use Rattle.std.specs.List.{position_or_len}
use Rattle.std.specs.Simd.{first_chunks}
use Rattle.std.proofs.lemmas.List.{get_or-take}
use native.Mathlib.Nat.{zero-add, zero-min, min-zero}
use Rattle.laws.proofs.Chunks.{chunks_length, chunk_further}
use Rattle.listing.proofs.Halt.{rows_within}
use mathlib.Core.Bool.{cond}
use Rattle.laws.specs.Choice.{pick}
use Rattle.listing.specs.Lines.{state_line_of, last_line_of}
use Rattle.listing.specs.Listing.{rows_of, before_halt_of, state_lines_of, listing_of}

-- the number of the first halt state among the n states from i on, or i + n
unfoldable pub halt_from : List ℕ → ℕ → ℕ → ℕ
halt_from l i zero = i
halt_from l i (suc n) = pick (eqb (get_or l (8 * i) 0) 8) i (halt_from l (i + 1) n)

-- the lines of n states from state i on
unfoldable pub lines_from : List ℕ → ℕ → ℕ → List ℕ
lines_from l i zero = []
lines_from l i (suc n) = state_line_of i (drop (8 * i) l) ++ lines_from l (i + 1) n

-- how many of the first n states come before the first halt state; a trace has no more than its rows
unfoldable pub before_at : List ℕ → ℕ → ℕ
before_at l n = halt_from l 0 (min n (length l / 8))

unfoldable pub listing_at : List ℕ → ℕ → ℕ → ℕ → List ℕ
listing_at l n a pc = lines_from l 0 (before_at l n) ++ last_line_of a pc (before_at l n)

zero_more : (i : ℕ) → i ≡ i + 0
zero_more i = omega arith

one_more : (i j k : ℕ) → j ≡ i + 1 + k → j ≡ i + (1 + k)
one_more i j k e = omega (arith, e)

choose : (b : Bool) (i j k : ℕ) → j ≡ i + 1 + k → pick b i j ≡ i + cond (not b) (1 + k) 0
choose true i j k e = zero_more i
choose false i j k e = one_more i j k e

halts : (l : List ℕ) (i k : ℕ) → halt_from l i k ≡ i + position_or_len (λ row. get_or row 0 0 == 8) (first_chunks 8 k (drop (8 * i) l))
unfolding halt_from
halts l i zero = zero_more i
halts l i (suc k) =
    let first : get_or (take 8 (drop (8 * i) l)) 0 0 ≡ get_or l (8 * i) 0 =
    get_or-take 8 (drop (8 * i) l) 0 0 (omega arith) ∙ get_or-drop (8 * i) l 0 0 ∙ ap (λ n. get_or l n 0) (sym (zero_more (8 * i)))
    in
    rw (chunk_further 8 i l, first) (choose (eqb (get_or l (8 * i) 0) 8) i _ _ (halts l (i + 1) k))

same_row : (i : ℕ) (m : List ℕ) → state_line_of i (take 8 m) ≡ state_line_of i m
unfolding state_line_of
same_row i m =
    rw (get_or-take 8 m 0 0 (omega arith), get_or-take 8 m 1 0 (omega arith), get_or-take 8 m 2 0 (omega arith), get_or-take 8 m 3 0 (omega arith), get_or-take 8 m 4 0 (omega arith)) refl

lines : (l : List ℕ) (i k : ℕ) → lines_from l i k ≡ state_lines_of i (first_chunks 8 k (drop (8 * i) l))
unfolding lines_from state_lines_of
lines l i zero = refl
lines l i (suc k) = rw (same_row i (drop (8 * i) l), chunk_further 8 i l, lines l (i + 1) k) refl

least : (n k : ℕ) → min (suc n) (suc k) ≡ suc (min n k)
least n k = omega arith

few : (n k : ℕ) (l : List ℕ) → take n (first_chunks 8 k l) ≡ first_chunks 8 (min n k) l
few zero k l = rw zero-min refl
few (suc n) zero l = rw min-zero refl
few (suc n) (suc k) l = rw (least n k) (ap (λ rows. take 8 l ∷ rows) (few n k (drop 8 l)))

before : (l : List ℕ) (n : ℕ) → before_at l n ≡ before_halt_of (rows_of l) n
unfolding before_at before_halt_of
before l n = rw few (halts l 0 (min n (length l / 8)) ∙ zero-add _)

-- the two listings
pub same_listing : (l : List ℕ) (n a pc : ℕ) → listing_at l n a pc ≡ listing_of l n a pc
unfolding listing_at listing_of
same_listing l n a pc =
    let k = before_halt_of (rows_of l) n in
    let within : k ≤ length l / 8 = omega (arith, rows_within (rows_of l) n, chunks_length 8 (length l / 8) l) in
    let fewest : min k (length l / 8) ≡ k = omega (arith, within) in
    rw (before l n, few k (length l / 8) l, fewest) (ap (λ s. s ++ last_line_of a pc k) (lines l 0 k))
