-- A number that is none of 0, 1, .., n - 1, as in the default arm of a `match` on these keys.
-- Assumes nothing.
use mathlib.Core.Path.{◌≡◌, sym}
use Prim.Native.Nat.{ℕ, zero, suc, ◌≤◌, ◌<◌, zero-le}
use native.Mathlib.Omega.{arith}
use native.Mathlib.Nat.{eq-or-lt_of_le}
use mathlib.Core.Logic.{⊎_elim}

-- x is none of 0, .., n - 1
abbrev pub NoneBelow : ℕ → ℕ → Type 0
NoneBelow x zero = Unit {0}
NoneBelow x (suc n) = NoneBelow x n × (x ≡ n → ⊥)

-- so it is n or more
pub past : (n : ℕ) {x : ℕ} → NoneBelow x n → n ≤ x
past zero h = zero-le
past (suc n) h = ⊎_elim (λ e. absurd (h.1 (sym e))) (λ l. l) (eq-or-lt_of_le (past n h.0))

-- and where it is at most n, it is n
pub last : (n : ℕ) {x : ℕ} → NoneBelow x n → x < suc n → x ≡ n
last n h l = let p = past n h in omega arith
