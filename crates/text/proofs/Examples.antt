-- A few numbers as characters. Each side is computed.
-- Assumes nothing.
use mathlib.Core.Path.{◌≡◌, refl}
use mathlib.Core.List.{[], ◌∷◌}
use Rattle.text.specs.Numbers.{digit_of, decimal_in, decimal_of}

-- "4095" and "0"
decimal_4095 : decimal_of 4095 ≡ 52 ∷ 48 ∷ 57 ∷ 53 ∷ []
unfolding decimal_of decimal_in digit_of
decimal_4095 = refl

decimal_0 : decimal_of 0 ≡ 48 ∷ []
unfolding decimal_of decimal_in digit_of
decimal_0 = refl
