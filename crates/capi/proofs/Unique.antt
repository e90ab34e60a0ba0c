-- Two results that the contract of a C function allows coincide. (`fez_well` and `fez_request` say what they return by one
-- equation, so `one_value` is theirs.) Assumes nothing.
use Prim.Native.Nat.{ℕ}
use mathlib.Core.Path.{◌≡◌}
use mathlib.Core.List.{List}
use Rattle.laws.proofs.Unique.{one_value}
use Rattle.capi.specs.Calls.{ColdCall, StepCall, RunCall, SaveCall, LoadCall, HexReadCall, HexWriteCall}

pub cold_unique : (z : List ℕ) (r r' : ℕ) (z₁ z₂ : List ℕ) → ColdCall z r z₁ → ColdCall z r' z₂ → (r ≡ r') × (z₁ ≡ z₂)
cold_unique z r r' z₁ z₂ p q = (one_value p.answer q.answer, one_value p.machine q.machine)

pub step_unique : (z : List ℕ) (v r r' : ℕ) (z₁ z₂ : List ℕ) → StepCall z v r z₁ → StepCall z v r' z₂
    → (r ≡ r') × (z₁ ≡ z₂)
step_unique z v r r' z₁ z₂ p q = (one_value p.answer q.answer, one_value p.machine q.machine)

pub run_unique : (z : List ℕ) (n : ℕ) (x i o s l : List ℕ) (r r' : ℕ) (z₁ x₁ o₁ l₁ z₂ x₂ o₂ l₂ : List ℕ)
    → RunCall z n x i o s l r z₁ x₁ o₁ l₁ → RunCall z n x i o s l r' z₂ x₂ o₂ l₂
    → (r ≡ r') × (z₁ ≡ z₂) × (x₁ ≡ x₂) × (o₁ ≡ o₂) × (l₁ ≡ l₂)
run_unique z n x i o s l r r' z₁ x₁ o₁ l₁ z₂ x₂ o₂ l₂ p q = (
  one_value p.answer q.answer,
  one_value p.machine q.machine,
  one_value p.memory q.memory,
  one_value p.outputs q.outputs,
  one_value p.trace q.trace,
)

pub save_unique : (z x o f : List ℕ) (r r' : ℕ) (f₁ f₂ : List ℕ) → SaveCall z x o f r f₁ → SaveCall z x o f r' f₂
    → (r ≡ r') × (f₁ ≡ f₂)
save_unique z x o f r r' f₁ f₂ p q = (one_value p.answer q.answer, one_value p.out q.out)

pub load_unique : (z s x o : List ℕ) (r r' : ℕ) (z₁ x₁ o₁ z₂ x₂ o₂ : List ℕ) → LoadCall z s x o r z₁ x₁ o₁
    → LoadCall z s x o r' z₂ x₂ o₂ → (r ≡ r') × (z₁ ≡ z₂) × (x₁ ≡ x₂) × (o₁ ≡ o₂)
load_unique z s x o r r' z₁ x₁ o₁ z₂ x₂ o₂ p q = (
  one_value p.answer q.answer,
  one_value p.machine q.machine,
  one_value p.memory q.memory,
  one_value p.outputs q.outputs,
)

pub hex_read_unique : (t x : List ℕ) (r r' : ℕ) (x₁ x₂ : List ℕ) → HexReadCall t x r x₁ → HexReadCall t x r' x₂
    → (r ≡ r') × (x₁ ≡ x₂)
hex_read_unique t x r r' x₁ x₂ p q = (one_value p.answer q.answer, one_value p.memory q.memory)

pub hex_write_unique : (x : List ℕ) (start n : ℕ) (f : List ℕ) (r r' : ℕ) (f₁ f₂ : List ℕ) → HexWriteCall x start n f r f₁
    → HexWriteCall x start n f r' f₂ → (r ≡ r') × (f₁ ≡ f₂)
hex_write_unique x start n f r r' f₁ f₂ p q = (one_value p.answer q.answer, one_value p.output q.output)
