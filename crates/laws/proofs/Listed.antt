-- What stands at a place of a list that was made from a rule.
-- Assumes nothing.
use Prim.Native.Nat.{ℕ, zero, suc, ◌+◌, ◌<◌}
use mathlib.Core.Path.{◌≡◌, sym, ap, ◌∙◌}
use native.Mathlib.Nat.{add-zero, zero-add}
use native.Mathlib.Omega.{arith}
use lib.ListN.{get_or}
use Rattle.laws.specs.Lists.{tabulate}

tabulate_at : (f : ℕ → ℕ) (n i k : ℕ) → k < n → get_or (tabulate f n i) k 0 ≡ f (i + k)
tabulate_at f zero i k h = absurd (let no : ⊥ = omega arith in no)
tabulate_at f (suc n) i zero h = ap f (sym (add-zero i))
tabulate_at f (suc n) i (suc k) h =
    tabulate_at f n (suc i) k (omega arith) ∙ ap f (let e : suc i + k ≡ i + suc k = omega arith in e)

pub tabulated : (f : ℕ → ℕ) (n k : ℕ) → k < n → get_or (tabulate f n 0) k 0 ≡ f k
tabulated f n k h = tabulate_at f n 0 k h ∙ ap f (zero-add k)
