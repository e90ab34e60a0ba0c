-- A contract that says "the result is this value" allows one result.
-- Assumes nothing.
use mathlib.Core.Path.{◌≡◌, sym, ◌∙◌}

pub one_value : {A : Type 0} {x y v : A} → x ≡ v → y ≡ v → x ≡ y
one_value p q = p ∙ sym q
