-- Two results that the contract of `save` or of `load` allows coincide. Assumes nothing.
use mathlib.Core.Path.{◌≡◌}
use mathlib.Core.List.{List}
use Prim.Native.Nat.{ℕ}
use Rattle.laws.proofs.Unique.{one_value}
use Rattle.machine.specs.declared.record.Machine.{Machine}
use Rattle.std.specs.Prelude.{Result}
use Rattle.saved.specs.declared.answer.Refusal.{Refusal}
use Rattle.saved.specs.declared.answer.NotLoaded.{NotLoaded}
use Rattle.saved.specs.Outcome.{Saves, Loads}

pub save_unique : (m : Machine) (x o z z₁ z₂ : List ℕ) (r r' : Result (Unit {0}) Refusal) → Saves m x o z r z₁ → Saves m x o z r' z₂
    → (r ≡ r') × (z₁ ≡ z₂)
save_unique m x o z z₁ z₂ r r' p q = (one_value p.answer q.answer, one_value p.out q.out)

pub load_unique : (m : Machine) (s x o x₁ o₁ x₂ o₂ : List ℕ) (r r' : Result Machine NotLoaded)
    → Loads m s x o r x₁ o₁ → Loads m s x o r' x₂ o₂
    → (r ≡ r') × (x₁ ≡ x₂) × (o₁ ≡ o₂)
load_unique m s x o x₁ o₁ x₂ o₂ r r' p q = (
  one_value p.answer q.answer,
  one_value p.memory q.memory,
  one_value p.outputs q.outputs,
)
