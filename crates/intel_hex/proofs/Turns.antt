-- One turn of the loop that writes bytes as digits, and the sum of bytes as a fold.
-- Assumes nothing.
use Prim.Native.Nat.{ℕ, ◌+◌, ◌%◌, ◌<◌}
use mathlib.Core.Path.{◌≡◌, ◌∙◌}
use mathlib.Core.List.{List, [], ◌∷◌}
use native.Mathlib.Omega.{arith}
use lib.ListN.{length, get_or, take}
use Rattle.std.specs.List.{fold}
use Rattle.std.proofs.lemmas.List.{take_more}
use Rattle.text.specs.Writer.{Adds}
use Rattle.text.specs.declared.Text.{Text}
use Rattle.text.specs.Numbers.{byte_of}
use Rattle.text.proofs.Writer.{writes_both}
use Rattle.intel_hex.specs.Digits.{digits_of, byte_sum}
use Rattle.intel_hex.proofs.Pieces.{digits_both, digits_one}

pub digits_turn : (s : List ℕ) (i : ℕ) {t u v : Text} → i < length s → Adds (digits_of (take i s)) t u → Adds (byte_of (get_or s i 0)) u v
    → Adds (digits_of (take (i + 1) s)) t v
digits_turn s i h p q = rw (take_more s i 0 h, digits_both, digits_one) (writes_both p q)

-- the sum, as a fold from any sum on
sum_from : (t : ℕ) (s : List ℕ) → t < 256 → fold (λ a b. (a + b) % 256) t s ≡ (t + byte_sum s) % 256
unfolding byte_sum
sum_from t [] h = omega arith
sum_from t (b ∷ s) h = sum_from ((t + b) % 256) s (omega arith) ∙ omega arith

pub sum_fold : (s : List ℕ) → fold (λ a b. (a + b) % 256) 0 s ≡ byte_sum s % 256
sum_fold s = sum_from 0 s (omega arith) ∙ omega arith
