-- Bytes as digits, and their sums, piece by piece.
-- Assumes nothing.
use Prim.Native.Nat.{ℕ, ◌+◌, ◌*◌}
use mathlib.Core.Path.{◌≡◌, refl}
use mathlib.Core.List.{List, [], ◌∷◌, ◌++◌}
use native.Mathlib.Omega.{arith}
use lib.ListN.{length}
use Rattle.text.specs.Numbers.{byte_of}
use Rattle.intel_hex.specs.Digits.{digits_of, byte_sum}

pub digits_both : (x y : List ℕ) → digits_of (x ++ y) ≡ digits_of x ++ digits_of y
unfolding digits_of byte_of
digits_both [] y = refl
digits_both (b ∷ x) y = rw (digits_both x y)

pub digits_one : (b : ℕ) → digits_of (b ∷ []) ≡ byte_of b
unfolding digits_of byte_of
digits_one b = refl

pub digits_length : (x : List ℕ) → length (digits_of x) ≡ 2 * length x
unfolding digits_of byte_of
digits_length [] = refl
digits_length (b ∷ x) = omega (arith, digits_length x)

pub sum_both : (x y : List ℕ) → byte_sum (x ++ y) ≡ byte_sum x + byte_sum y
unfolding byte_sum
sum_both [] y = omega arith
sum_both (b ∷ x) y = omega (arith, sum_both x y)
