-- There and back through C: loading what was saved gives the machine, memory and output ports that were saved.
-- Assumes nothing.
use Prim.Native.Nat.{ℕ}
use mathlib.Core.Path.{◌≡◌, refl, sym, ap, ◌∙◌}
use mathlib.Core.List.{List}
use native.Mathlib.Omega.{arith}
use lib.ListN.{length}
use borrow.Author.Tests.{eq-eqb}
use Rattle.machine.specs.declared.record.Machine.{Machine}
use Rattle.saved.specs.declared.answer.Refusal.{Refusal}
use Rattle.saved.specs.declared.answer.Refusal.TheVariants.{MemorySize, PortSize, IllFormed, InsideInstruction}
use Rattle.saved.specs.declared.answer.Refusal.TheVariants.{SavedSize, FieldRange, OutputSize}
use Rattle.std.specs.Prelude.{Result, Ok, Err}
use Rattle.saved.specs.Fields.{machine_in}
use Rattle.saved.specs.Answer.{refusal_number, saving_number, loading_number}
use Rattle.saved.specs.Check.{save_verdict, load_verdict}
use Rattle.saved.specs.Outcome.{loading_by, Saves, Loads}
use Rattle.saved.proofs.Trip.{saved_loads}
use Rattle.capi.specs.Flat.{flat_of}
use Rattle.capi.specs.Handed.{handed_of}
use Rattle.capi.specs.Calls.{SaveCall, load_call_verdict, LoadCall}
use Rattle.capi.proofs.Loads.{load_number, loaded_left}
use Rattle.capi.proofs.Back.{handed_flat}

-- no refusal has the number 0, so 0 comes of a good verdict
no_zero : (reason : Refusal) → refusal_number reason ≡ 0 → ⊥
no_zero MemorySize e = omega arith
no_zero PortSize e = omega arith
no_zero IllFormed e = omega arith
no_zero InsideInstruction e = omega arith
no_zero SavedSize e = omega arith
no_zero FieldRange e = omega arith
no_zero OutputSize e = omega arith

zero_good : (v : Result (Unit {0}) Refusal) → saving_number v ≡ 0 → v ≡ Ok tt
zero_good (Ok good) e = refl
zero_good (Err reason) e = absurd (no_zero reason e)

-- a save through C that is done is one of `save`
saved_by : (z x o f f' : List ℕ) → SaveCall z x o f 0 f' → Saves (handed_of z) x o f (Ok tt) f'
saved_by z x o f f' c =
    let good = zero_good (save_verdict (handed_of z) (length x) (length o) (length f)) (sym c.answer) in
    record { answer = sym good; out = c.out }

-- a load through C into a record is one of `load`, whatever machine that is handed
loaded_by : (k : Machine) (z s x o : List ℕ) (r : ℕ) (z' x' o' : List ℕ) → length z ≡ 64 → LoadCall z s x o r z' x' o'
    → Loads k s x o (loading_by (load_verdict s (length x) (length o)) (machine_in s) k) x' o'
unfolding load_call_verdict
loaded_by k z s x o r z' x' o' e c =
    let yes = eq-eqb (length z) 64 e in
    record { answer = refl; memory = rw yes at c.memory; outputs = rw yes at c.outputs }

-- what a load through C returns and leaves in the record, where `load` gave the machine m
loaded_call : (m k : Machine) (z s x o : List ℕ) (r : ℕ) (z' x' o' : List ℕ) → length z ≡ 64 → LoadCall z s x o r z' x' o'
    → loading_by (load_verdict s (length x) (length o)) (machine_in s) k ≡ Ok m → (r ≡ 0) × (z' ≡ flat_of m)
unfolding load_call_verdict
loaded_call m k z s x o r z' x' o' e c l =
    let yes = eq-eqb (length z) 64 e in
    let v = load_verdict s (length x) (length o) in (
      (rw yes at c.answer) ∙ sym (load_number v (machine_in s) k) ∙ ap loading_number l,
      (rw yes at c.machine) ∙ sym (loaded_left v m (machine_in s) k z (flat_of m) (sym l) refl),
    )

-- the record z₁, memory x₁ and output ports o₁ are of the right size, and hold anything
pub save_load : (z x o f f' z₁ x₁ o₁ : List ℕ) (r : ℕ) (z' x' o' : List ℕ) → SaveCall z x o f 0 f' → length z₁ ≡ 64
    → length x₁ ≡ 65536 → length o₁ ≡ 256 → LoadCall z₁ f' x₁ o₁ r z' x' o'
    → (r ≡ 0) × (handed_of z' ≡ handed_of z) × (x' ≡ x) × (o' ≡ o)
save_load z x o f f' z₁ x₁ o₁ r z' x' o' s p q t l =
    let m = handed_of z in
    let back = saved_loads m m x o f f' x₁ o₁ x' o' _ (saved_by z x o f f' s) q t (loaded_by m z₁ f' x₁ o₁ r z' x' o' p l) in
    let call = loaded_call m m z₁ f' x₁ o₁ r z' x' o' p l back.0 in
    (call.0, ap handed_of call.1 ∙ handed_flat m, back.1, back.2)
