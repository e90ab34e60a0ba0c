-- Where a text goes: from its place on, and nowhere else; a text that fits is there whole.
-- Assumes nothing.
use Prim.Native.Nat.{ℕ, suc, ◌+◌, ◌≤◌, ◌<◌}
use mathlib.Core.Path.{◌≡◌, refl, sym, ap, ◌∙◌}
use mathlib.Core.List.{List, [], ◌∷◌, ◌++◌}
use mathlib.Core.Logic.{⊎_elim}
use native.Mathlib.Omega.{arith}
use native.Mathlib.Nat.{zero-add}
use native.Mathlib.Numerals.{add-one}
use borrow.Author.Tests.{lt-ltb, le-ltb}
use lib.ListN.{length, take, drop, set, length-set}
use lib.Seq.{set_out, sets, length-sets, sets-eq}
use Rattle.laws.proofs.Order.{lt_or_le}
use Rattle.text.specs.Text.{Text, text_of, put_of, written_of}

sets_out : (l : List ℕ) (i : ℕ) (s : List ℕ) → length l ≤ i → sets l i s ≡ l
sets_out l i [] h = refl
sets_out l i (c ∷ s) h = rw (set_out l i c h) (sets_out l (suc i) s (omega arith))

-- the place after a character, where there is room and where there is none
module _ (c : ℕ) (t : Text) where
  put_place : t.place < length t.bytes → (put_of c t).place ≡ suc t.place
  unfolding put_of
  put_place h = rw (lt-ltb _ _ h) (add-one t.place)

  put_full : length t.bytes ≤ t.place → (put_of c t).place ≡ t.place
  unfolding put_of
  put_full h = rw (le-ltb _ _ h)

  put_bytes : (put_of c t).bytes ≡ set t.bytes t.place c
  unfolding put_of
  put_bytes = refl

  put_length : length (put_of c t).bytes ≡ length t.bytes
  put_length = ap length put_bytes ∙ length-set t.bytes t.place c

-- the bytes: the characters are stored from the place on, as far as there are bytes
pub written_bytes : (s : List ℕ) (t : Text) → (written_of s t).bytes ≡ sets t.bytes t.place s
unfolding written_of
written_bytes [] t = refl
written_bytes (c ∷ s) t =
    written_bytes s (put_of c t)
    ∙ ap (λ l. sets l (put_of c t).place s) (put_bytes c t)
    ∙ ⊎_elim (λ (h : t.place < length t.bytes). rw (put_place c t h))
    (λ (h : length t.bytes ≤ t.place).
    sets_out _ _ s (rw (length-set t.bytes t.place c, put_full c t h) h)
    ∙ sym (sets_out _ _ s (rw (length-set t.bytes t.place c) (omega arith))))
    (lt_or_le t.place (length t.bytes))

-- the place: past the text where it fits, and never past the bytes
pub written_place : (s : List ℕ) (t : Text) → t.place + length s ≤ length t.bytes
    → (written_of s t).place ≡ t.place + length s
unfolding written_of
written_place [] t h = omega arith
written_place (c ∷ s) t h =
    let next = put_place c t (omega arith) in
    written_place s (put_of c t) (omega (arith, next, put_length c t)) ∙ omega (arith, next)

pub written_within : (s : List ℕ) (t : Text) → t.place ≤ length t.bytes → (written_of s t).place ≤ length t.bytes
unfolding written_of
written_within [] t h = h
written_within (c ∷ s) t h =
    let here : (put_of c t).place ≤ length t.bytes =
    ⊎_elim (λ (l : t.place < length t.bytes). omega (arith, put_place c t l))
    (λ (l : length t.bytes ≤ t.place). omega (arith, put_full c t l))
    (lt_or_le t.place (length t.bytes))
    in
    omega (arith, put_length c t, written_within s (put_of c t) (omega (arith, here, put_length c t)))

-- a text that fits is there whole, and what stands before and after it is as it was
pub fits : (s out : List ℕ) (at : ℕ) → at + length s ≤ length out
    → written_of s (text_of out at) ≡ text_of (take at out ++ s ++ drop (at + length s) out) (at + length s)
unfolding text_of
fits s out at h =
    let e = written_bytes s (text_of out at) ∙ sets-eq s out at h in
    let p = written_place s (text_of out at) h in
    λ i. record { bytes = e i; place = p i }

-- a text leaves as many bytes as there were
pub as_many : (s out o : List ℕ) (at r : ℕ) → text_of o r ≡ written_of s (text_of out at) → length o ≡ length out
unfolding text_of
as_many s out o at r e = ap (λ (t : Text). length t.bytes) e ∙ ap length (written_bytes s (text_of out at)) ∙ length-sets out at s

-- and the place after a text that goes from the start of out on lies within out
pub within : (s out o : List ℕ) (r : ℕ) → text_of o r ≡ written_of s (text_of out 0) → r ≤ length o
unfolding text_of
within s out o r e =
    let place : r ≡ (written_of s (text_of out 0)).place = ap (λ (t : Text). t.place) e in
    omega (arith, as_many s out o 0 r e, place, written_within s (text_of out 0) (omega arith))

-- such a text is there whole where it fits
pub whole : (s out o : List ℕ) (r : ℕ) → text_of o r ≡ written_of s (text_of out 0) → length s ≤ length out
    → (r ≡ length s) × (o ≡ s ++ drop r out)
unfolding text_of
whole s out o r e h =
    let f = e ∙ fits s out 0 (omega arith) in
    let place : r ≡ length s = ap (λ (t : Text). t.place) f ∙ zero-add (length s) in
    (place, ap (λ (t : Text). t.bytes) f ∙ rw (zero-add, place))

-- two results that a contract allows coincide
pub text_unique : (o o' : List ℕ) (r r' : ℕ) (t : Text) → text_of o r ≡ t → text_of o' r' ≡ t → (o ≡ o') × (r ≡ r')
unfolding text_of
text_unique o o' r r' t p q =
    (ap (λ (u : Text). u.bytes) (p ∙ sym q), ap (λ (u : Text). u.place) (p ∙ sym q))
