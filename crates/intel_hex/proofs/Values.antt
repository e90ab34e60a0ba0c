-- Digits written are read back: what they count, and that they are hex digits and no line ends at them.
-- Assumes nothing.
use Prim.Native.Nat.{ℕ, suc, ◌/◌, ◌%◌, ◌<◌}
use mathlib.Core.Path.{◌≡◌, refl}
use mathlib.Core.Bool.{true, false, not}
use mathlib.Core.List.{List, [], ◌∷◌}
use native.Mathlib.Omega.{arith}
use lib.Dec.{eqb, eqb→eq}
use borrow.Author.Tests.{not-true}
use Rattle.laws.proofs.Every.{below}
use Rattle.laws.proofs.Tests.{T→true}
use Rattle.text.specs.Text.{feed}
use Rattle.text.specs.Numbers.{digit_of, byte_of}
use Rattle.intel_hex.specs.Digits.{is_hex, digit_value, all_hex, two_digits, bytes_in, digits_of}
use Rattle.text.specs.Bytes.{Bytes}

-- a digit
module _ (d : ℕ) (h : d < 16) where
  pub digit_value_lem : digit_value (digit_of d) ≡ d
  unfolding digit_value digit_of
  digit_value_lem = eqb→eq _ _ (below (λ i. eqb (digit_value (digit_of i)) i) 16 tt d h)

  pub digit_hex : is_hex (digit_of d) ≡ true
  unfolding is_hex digit_of
  digit_hex = T→true _ (below (λ i. is_hex (digit_of i)) 16 tt d h)

  pub digit_no_feed : eqb (digit_of d) feed ≡ false
  unfolding digit_of
  digit_no_feed = not-true _ (T→true _ (below (λ i. not (eqb (digit_of i) feed)) 16 tt d h))

-- a byte
pub pair_back : (b : ℕ) → b < 256 → two_digits (digit_of (b / 16)) (digit_of (b % 16)) ≡ b
unfolding two_digits
pair_back b h = rw (digit_value_lem (b / 16) (omega arith), digit_value_lem (b % 16) (omega arith)) (omega arith)

-- bytes
pub digits_back : (s : List ℕ) → Bytes s → bytes_in (digits_of s) ≡ s
unfolding bytes_in digits_of byte_of
digits_back [] h = refl
digits_back (b ∷ s) h = rw (pair_back b (h 0), digits_back s (λ j. h (suc j)))

pub digits_hex : (s : List ℕ) → Bytes s → all_hex (digits_of s) ≡ true
unfolding digits_of byte_of
digits_hex [] h = refl
digits_hex (b ∷ s) h =
    rw (digit_hex (b / 16) (omega (arith, h 0)), digit_hex (b % 16) (omega arith), digits_hex s (λ j. h (suc j)))
