-- Two results that the contract of `read` or of `write` allows coincide. Assumes nothing.
use Prim.Native.Nat.{ℕ}
use mathlib.Core.Path.{◌≡◌}
use mathlib.Core.List.{List}
use Rattle.laws.proofs.Unique.{one_value}
use Rattle.intel_hex.specs.Answer.{Reading, Writing}
use Rattle.intel_hex.specs.Outcome.{Reads, Writes}

pub read_unique : (t x x₁ x₂ : List ℕ) (r r' : Reading) → Reads t x r x₁ → Reads t x r' x₂ → (r ≡ r') × (x₁ ≡ x₂)
read_unique t x x₁ x₂ r r' p q = (one_value p.answer q.answer, one_value p.memory q.memory)

pub write_unique : (x : List ℕ) (start n : ℕ) (z z₁ z₂ : List ℕ) (r r' : Writing) → Writes x start n z r z₁ → Writes x start n z r' z₂
    → (r ≡ r') × (z₁ ≡ z₂)
write_unique x start n z z₁ z₂ r r' p q = (one_value p.answer q.answer, one_value p.output q.output)
