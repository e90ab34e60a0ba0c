-- Lists made from a rule. Cited by definitions of tables.
use Rattle.std.specs.Prelude.{ℕ, zero, suc, List, [], ◌∷◌}

-- f of the n numbers from i on: f i, f (i + 1), ..
abbrev pub tabulate : (ℕ → ℕ) → ℕ → ℕ → List ℕ
tabulate f zero i = []
tabulate f (suc n) i = f i ∷ tabulate f n (suc i)
