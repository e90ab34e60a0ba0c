-- What a load answers and leaves in a record, from its verdict. Assumes nothing.
use Prim.Native.Nat.{ℕ}
use mathlib.Core.Path.{◌≡◌, refl, ap, ◌∙◌}
use mathlib.Core.List.{List}
use Rattle.machine.specs.declared.record.Machine.{Machine}
use Rattle.saved.specs.declared.answer.Refusal.{Refusal}
use Rattle.std.specs.Prelude.{Result, Ok, Err}
use Rattle.saved.specs.Answer.{saving_number, loading_number}
use Rattle.saved.specs.Outcome.{filled_by, loading_by}
use Rattle.capi.specs.Flat.{flat_of}

-- the number of a load is that of its verdict
pub load_number : (v : Result (Unit {0}) Refusal) (n k : Machine) → loading_number (loading_by v n k) ≡ saving_number v
load_number (Ok good) n k = refl
load_number (Err reason) n k = refl

-- what is left after a load that gave the machine m
pub loaded_left : (v : Result (Unit {0}) Refusal) (m n k : Machine) (z z' : List ℕ) → Ok m ≡ loading_by v n k
    → z' ≡ flat_of m → z' ≡ filled_by v (flat_of n) z
loaded_left (Ok good) m n k z z' e p = p ∙ ap flat_of (let q : m ≡ n = cc in q)
loaded_left (Err reason) m n k z z' e p = absurd cc
