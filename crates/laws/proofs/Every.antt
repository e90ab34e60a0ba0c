-- A test that antt computes at every number below a bound, or at both truth values, and the laws that give it at each.
-- Assumes nothing.
use Prim.Native.Nat.{ℕ, zero, suc, ◌<◌}
use mathlib.Core.Path.{◌≡◌, refl, subst, sym}
use mathlib.Core.Bool.{Bool, true, false, ◌&&◌}
use mathlib.Core.Logic.{⊎_elim}
use native.Mathlib.Nat.{eq-or-lt_of_le, le_of_suc-le-suc, not-suc-le-zero}
use lib.Dec.{T}

-- the test passes at each number below n
abbrev pub every : (ℕ → Bool) → ℕ → Bool
every test zero = true
every test (suc n) = test n && every test n

pub and_left : (a b : Bool) → T (a && b) → T a
and_left true b t = tt
and_left false b t = t

pub and_right : (a b : Bool) → T (a && b) → T b
and_right true b t = t
and_right false b t = absurd t

-- of four tests in one, each
pub and_each : (a b c d : Bool) → T (a && (b && (c && d))) → T a × T b × T c × T d
and_each a b c d t = (
  and_left a (b && (c && d)) t,
  and_left b (c && d) (and_right a (b && (c && d)) t),
  and_left c d (and_right b (c && d) (and_right a (b && (c && d)) t)),
  and_right c d (and_right b (c && d) (and_right a (b && (c && d)) t)),
)

-- what every number below n passes, each of them passes
pub below : (test : ℕ → Bool) (n : ℕ) → T (every test n) → (k : ℕ) → k < n → T (test k)
below test zero t k h = absurd (not-suc-le-zero h)
below test (suc n) t k h =
    ⊎_elim (λ (e : k ≡ n). subst (λ (i : ℕ). T (test i)) (sym e) (and_left (test n) (every test n) t))
    (λ (l : k < n). below test n (and_right (test n) (every test n) t) k l)
    (eq-or-lt_of_le (le_of_suc-le-suc h))

-- what true and false pass, any truth value passes
pub either : (test : Bool → Bool) → T (test true && test false) → (b : Bool) → T (test b)
either test t true = and_left (test true) (test false) t
either test t false = and_right (test true) (test false) t

-- two tests agree
abbrev pub same : Bool → Bool → Bool
same true b = b
same false true = false
same false false = true

pub same→eq : (a b : Bool) → T (same a b) → a ≡ b
same→eq true true t = refl
same→eq true false t = absurd t
same→eq false true t = absurd t
same→eq false false t = refl
