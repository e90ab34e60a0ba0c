-- A range record by record: the records so far and one more, of the next 16 bytes or the last fewer.
-- Assumes nothing.
use Prim.Native.Nat.{ℕ, zero, suc, ◌+◌, ◌*◌, min}
use mathlib.Core.Path.{◌≡◌, refl, sym, ap, ◌∙◌}
use mathlib.Core.List.{List, [], ◌∷◌, ◌++◌, append_assoc, append-nil}
use native.Mathlib.Omega.{arith}
use native.Mathlib.Numerals.{add-one}
use lib.ListN.{length, take, drop}
use lib.Seq.{drop-drop}
use Rattle.text.specs.Writer.{Adds}
use Rattle.text.specs.declared.Text.{Text}
use Rattle.text.proofs.Writer.{writes_none, writes_both}
use Rattle.intel_hex.specs.Record.{record_of}
use Rattle.intel_hex.specs.Write.{records_of}

-- the first n elements or all, and the rest
cut : (n : ℕ) (x t : List ℕ) → length x ≡ min n (length (x ++ t)) → (take n (x ++ t) ≡ x) × (drop n (x ++ t) ≡ t)
cut zero [] t h = (refl, refl)
cut zero (b ∷ x) t h = absurd (let no : ⊥ = omega (arith, h) in no)
cut (suc n) [] [] h = (refl, refl)
cut (suc n) [] (b ∷ t) h = absurd (let no : ⊥ = omega (arith, h) in no)
cut (suc n) (b ∷ x) t h = let c = cut n x t (omega (arith, h)) in (ap (λ l. b ∷ l) c.0, c.1)

-- no record
pub chunks_none : (a : ℕ) (d : List ℕ) (i : ℕ) (t : Text) → i ≡ 0 → Adds (records_of i a d) t t
unfolding records_of
chunks_none a d i t e = rw e (writes_none t)

-- a record more
records_more : (k a : ℕ) (d : List ℕ) → records_of (suc k) a d ≡ records_of k a d ++ record_of 0 (a + 16 * k) (take 16 (drop (16 * k) d))
unfolding records_of
records_more zero a d = let here : a + 16 * 0 ≡ a = omega arith in rw (here, append-nil)
records_more (suc k) a d =
    let here : a + 16 + 16 * k ≡ a + 16 * suc k = omega arith in
    let there : 16 + 16 * k ≡ 16 * suc k = omega arith in
    rw (append_assoc, records_more k (a + 16) (drop 16 d), here, drop-drop, there)

-- what the parts x of a range d say, each with what is left before and after it
module _ (a : ℕ) (d : List ℕ) (i : ℕ) (s x t : List ℕ) (at : s ≡ drop (16 * i) d) (split : s ≡ x ++ t) (size : length x ≡ min 16 (length s)) where
  pub chunk_more : {u v w : Text} → Adds (records_of i a d) u v → Adds (record_of 0 (a + 16 * i) x) v w → Adds (records_of (i + 1) a d) u w
  chunk_more p q =
      let part = (cut 16 x t (rw split at size)).0 in
      rw (add-one i, records_more, ← at, split, part) (writes_both p q)

  pub chunk_next : t ≡ drop (16 * (i + 1)) d
  chunk_next =
      let next : 16 * i + 16 ≡ 16 * (i + 1) = omega arith in
      sym (cut 16 x t (rw split at size)).1 ∙ rw (← split, at, drop-drop, next)
