-- The rows of six bytes are the events of the schedule. Assumes nothing.
use Prim.Native.Nat.{ℕ, zero, suc, ◌+◌, ◌-◌, ◌*◌, ◌/◌, ◌%◌, ◌≤◌, ◌<◌}
use mathlib.Core.Path.{◌≡◌, refl, sym, ap, ◌∙◌}
use mathlib.Core.Bool.{Bool, true, false, ◌&&◌}
use mathlib.Core.List.{List, []}
use native.Mathlib.Omega.{arith}
use borrow.Author.Tests.{le-leb}
use lib.Dec.{eqb, leb}
use lib.ListN.{get_or, take, drop}
use lib.Seq.{get_or-drop}
use Rattle.std.specs.Simd.{first_chunks}
use Rattle.std.proofs.lemmas.List.{get_or-take}
use Rattle.machine.specs.declared.record.Lines.{Lines}
use mathlib.Core.Logic.{⊎_elim}
use native.Mathlib.Nat.{eq-or-lt_of_le}
use Rattle.std.specs.List.{list_all, IsAllAdjacentAnswer}
use Rattle.laws.specs.Choice.{pick}
use Rattle.laws.proofs.Chunks.{chunks_length, chunk_further}
use Rattle.laws.proofs.Tests.{and_pick}
use Rattle.schedule.specs.Events.{state_number_of, listed_at, follows_of, may_follow, all, ordered_of}
use Rattle.schedule.specs.Levels.{once_of}

row_byte : (k i j at : ℕ) (s : List ℕ) → i < k → j < 6 → at ≡ 6 * i + j → get_or (get_or (first_chunks 6 k s) i []) j 0 ≡ get_or s at 0
row_byte zero i j at s h b e = absurd (let no : ⊥ = omega arith in no)
row_byte (suc k) zero j at s h b e =
    let q : j ≡ at = omega (arith, e) in
    get_or-take 6 s j 0 b ∙ ap (λ n. get_or s n 0) q
row_byte (suc k) (suc i) j at s h b e =
    let q : 6 + (6 * i + j) ≡ at = omega (arith, e) in
    row_byte k i j (6 * i + j) (drop 6 s) (omega arith) b refl ∙ get_or-drop 6 s (6 * i + j) 0 ∙ ap (λ n. get_or s n 0) q

all_true : (test : ℕ → Bool) (n i : ℕ) → ((j : ℕ) → i ≤ j → j < i + n → test j ≡ true) → all test n i ≡ true
unfolding all
all_true test zero i h = refl
all_true test (suc n) i h = rw (h i (omega arith) (omega arith)) (all_true test n (i + 1) (λ j p q. h j (omega arith) (omega arith)))

none : (b : Bool) → pick b false false ≡ false
none true = refl
none false = refl

all_false : (test : ℕ → Bool) (n i j : ℕ) → i ≤ j → j < i + n → test j ≡ false → all test n i ≡ false
unfolding all
all_false test zero i j p q e = absurd (let no : ⊥ = omega arith in no)
all_false test (suc n) i j p q e =
    ⊎_elim (λ (h : i ≡ j). rw (h, e) refl)
    (λ (h : i < j). rw (all_false test n (i + 1) j (omega arith) (omega arith) e) (none (test i)))
    (eq-or-lt_of_le p)

module _ (s : List ℕ) (k : ℕ) where
  abbrev row : ℕ → List ℕ
  row i = get_or (first_chunks 6 k s) i []

  byte : (i j at : ℕ) → i < k → j < 6 → at ≡ 6 * i + j → get_or (row i) j 0 ≡ get_or s at 0
  byte i j at h b e = row_byte k i j at s h b e

  pub row_number : (i : ℕ) → i < k → state_number_of (row i) 0 ≡ state_number_of s i
  unfolding state_number_of
  row_number i h =
      let first : 6 * i ≡ 6 * i + 0 = omega arith in
      rw (byte i 0 (6 * i) h (omega arith) first, byte i 1 _ h (omega arith) refl, byte i 2 _ h (omega arith) refl, byte i 3 _ h (omega arith) refl) refl

  pub row_once : (i t : ℕ) (l : Lines) → i < k → once_of (row i) 0 t l ≡ once_of s i t l
  unfolding once_of
  row_once i t l h = rw (row_number i h, byte i 4 _ h (omega arith) refl, byte i 5 _ h (omega arith) refl) refl

  row_follows : (i : ℕ) → i + 1 < k → may_follow (row i) (row (i + 1)) ≡ follows_of s i
  unfolding may_follow follows_of
  row_follows i h =
      rw (row_number i (omega arith), row_number (i + 1) h, byte i 4 _ (omega arith) (omega arith) refl, byte (i + 1) 4 _ h (omega arith) refl) refl

  -- so they are in order as the rows are
  pub rows_ordered : (r : Bool) → IsAllAdjacentAnswer (λ d e b. b ≡ may_follow d e) (first_chunks 6 k s) r → r ≡ ordered_of s k
  unfolding ordered_of
  rows_ordered true h =
      sym (all_true (follows_of s) (k - 1) 0
      (λ j p q. sym (row_follows j (omega arith)) ∙ sym (h j [] (omega (arith, chunks_length 6 k s, q)))))
  rows_ordered false h =
      let l : h.0 + 1 < k = omega (arith, chunks_length 6 k s, h.1) in
      sym (all_false (follows_of s) (k - 1) 0 h.0 (omega arith) (omega arith) (sym (row_follows h.0 l) ∙ sym (h.2 [])))

lists : (s : List ℕ) (i k : ℕ) → list_all (λ e. listed_at e 0) (first_chunks 6 k (drop (6 * i) s)) ≡ all (listed_at s) k i
unfolding all
lists s i zero = refl
lists s i (suc k) =
    let line : get_or (take 6 (drop (6 * i) s)) 4 0 ≡ get_or s (6 * i + 4) 0 =
    get_or-take 6 (drop (6 * i) s) 4 0 (omega arith) ∙ get_or-drop (6 * i) s 4 0
    in
    let value : get_or (take 6 (drop (6 * i) s)) 5 0 ≡ get_or s (6 * i + 5) 0 =
    get_or-take 6 (drop (6 * i) s) 5 0 (omega arith) ∙ get_or-drop (6 * i) s 5 0
    in
    rw (line, value, chunk_further 6 i s) (and_pick (listed_at s i) _ _ (lists s (i + 1) k))

-- and they are of the list
pub rows_listed : (s : List ℕ) (k : ℕ) → list_all (λ e. listed_at e 0) (first_chunks 6 k s) ≡ all (listed_at s) k 0
rows_listed s k = lists s 0 k

pub whole_rows : (n : ℕ) → n % 6 ≡ 0 → n / 6 ≤ 1000 → (eqb (n % 6) 0 && leb n 6000) ≡ true
whole_rows n e h =
    let few : n ≤ 6000 = omega (arith, e, h) in
    rw e (le-leb n 6000 few)
