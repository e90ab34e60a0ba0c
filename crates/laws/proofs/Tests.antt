-- Tests put together and taken apart, what holds of both sides of a choice, and what a branch says of a test.
-- Assumes nothing.
use mathlib.Core.Path.{◌≡◌, refl}
use mathlib.Core.Bool.{Bool, true, false, ◌&&◌, ◌||◌}
use mathlib.Core.Logic.{◌⊎◌, inl, inr}
use lib.Dec.{T}
use borrow.Author.Tests.{eq-eqb, ne_eqb, lt-ltb, le-ltb, le-leb, lt-leb}
use Rattle.laws.specs.Choice.{pick}

-- a test that passes is true
pub true→T : (a : Bool) → a ≡ true → T a
true→T a e = rw e tt

pub T→true : (a : Bool) → T a → a ≡ true
T→true true t = refl
T→true false t = absurd t

-- two tests in one, where both pass or one does
pub and_both : (a b : Bool) → T a → T b → T (a && b)
and_both true b s t = t
and_both false b s t = s

pub or_left : (a b : Bool) → T a → T (a || b)
or_left true b t = tt
or_left false b t = absurd t

pub or_right : (a b : Bool) → T b → T (a || b)
or_right true b t = tt
or_right false b t = t

-- of two tests in one, where one passes
pub or_either : (a b : Bool) → T (a || b) → T a ⊎ T b
or_either true b t = inl tt
or_either false b t = inr t

-- two tests in one, as a choice
pub and_pick : (b c d : Bool) → c ≡ d → (b && c) ≡ pick b d false
and_pick true c d e = e
and_pick false c d e = refl

-- what holds of each side where it is chosen, holds of the choice
pub pick_both : {A : Type 0} (P : A → Type 0) (b : Bool) (x y : A) → (b ≡ true → P x) → (b ≡ false → P y) → P (pick b x y)
pick_both P true x y f g = f refl
pick_both P false x y f g = g refl

-- a branch's fact as the value of the test that a definition makes, for `search (tests, needs)`
pub ruleset tests = (eq-eqb, ne_eqb, lt-ltb, le-ltb, le-leb, lt-leb)
