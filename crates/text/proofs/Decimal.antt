-- A number's decimal digits: one, or those of a tenth of it and the last.
-- Assumes nothing.
use Prim.Native.Nat.{ℕ, zero, suc, ◌/◌, ◌%◌, ◌≤◌, ◌<◌}
use mathlib.Core.Path.{◌≡◌, refl, ap}
use mathlib.Core.List.{[], ◌∷◌, ◌++◌}
use mathlib.Core.Logic.{⊎_elim}
use native.Mathlib.Omega.{arith}
use borrow.Author.Tests.{lt-ltb, le-ltb}
use Rattle.laws.proofs.Order.{lt_or_le}
use Rattle.text.specs.Numbers.{digit_of, decimal_in, decimal_of}

small_in : (k n : ℕ) → n < 10 → decimal_in k n ≡ digit_of n ∷ []
unfolding decimal_in
small_in zero n h = refl
small_in (suc k) n h = rw (lt-ltb n 10 h)

large_in : (k n : ℕ) → 10 ≤ n → decimal_in (suc k) n ≡ decimal_in k (n / 10) ++ digit_of (n % 10) ∷ []
unfolding decimal_in
large_in k n h = rw (le-ltb n 10 h)

-- n itself, or any larger number, bounds its digits
enough : (k j n : ℕ) → n ≤ k → n ≤ j → decimal_in k n ≡ decimal_in j n
enough zero j n p q = rw (small_in zero n (omega arith), small_in j n (omega arith))
enough (suc k) zero n p q = rw (small_in (suc k) n (omega arith), small_in zero n (omega arith))
enough (suc k) (suc j) n p q =
    ⊎_elim (λ (l : n < 10). rw (small_in (suc k) n l, small_in (suc j) n l))
    (λ (l : 10 ≤ n). rw (large_in k n l, large_in j n l) (ap (λ s. s ++ digit_of (n % 10) ∷ []) (enough k j (n / 10) (omega arith) (omega arith))))
    (lt_or_le n 10)

pub decimal_small : (n : ℕ) → n < 10 → decimal_of n ≡ digit_of n ∷ []
unfolding decimal_of
decimal_small n h = small_in n n h

pub decimal_large : (n : ℕ) → 10 ≤ n → decimal_of n ≡ decimal_of (n / 10) ++ digit_of (n % 10) ∷ []
unfolding decimal_of
decimal_large zero h = absurd (let no : ⊥ = omega arith in no)
decimal_large (suc k) h =
    rw (large_in k (suc k) h)
    (ap (λ s. s ++ digit_of (suc k % 10) ∷ []) (enough k (suc k / 10) (suc k / 10) (omega arith) (omega arith)))
