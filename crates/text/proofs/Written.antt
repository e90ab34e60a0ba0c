-- Texts written one after the other.
-- Assumes nothing.
use Prim.Native.Nat.{ℕ}
use mathlib.Core.Path.{◌≡◌, refl}
use mathlib.Core.List.{List, [], ◌∷◌, ◌++◌}
use Rattle.text.specs.Text.{Text, put_of, written_of}

-- no character, one more, and one text after another
pub written_none : (t : Text) → written_of [] t ≡ t
unfolding written_of
written_none t = refl

pub written_more : (c : ℕ) (s : List ℕ) (t : Text) → written_of (c ∷ s) t ≡ written_of s (put_of c t)
unfolding written_of
written_more c s t = refl

pub written_both : (x y : List ℕ) (t : Text) → written_of (x ++ y) t ≡ written_of y (written_of x t)
unfolding written_of
written_both [] y t = refl
written_both (c ∷ x) y t = written_both x y (put_of c t)

-- what stands in a text as several pieces is written piece by piece
pub ruleset pieces = (written_none, written_more, written_both)
