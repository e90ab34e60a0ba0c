-- A refusal changes nothing: the output, the buffers and the machine are as they came. Assumes nothing.
use Prim.Native.Nat.{ℕ}
use mathlib.Core.Path.{◌≡◌, refl, ap, ◌∙◌}
use mathlib.Core.List.{List}
use lib.ListN.{length}
use Rattle.machine.specs.declared.record.Machine.{Machine}
use Rattle.saved.specs.declared.answer.Refusal.{Refusal}
use Rattle.saved.specs.declared.answer.NotLoaded.{NotLoaded}
use Rattle.std.specs.Prelude.{Result, Ok, Err}
use Rattle.saved.specs.Header.{saved_of}
use Rattle.saved.specs.Fields.{machine_in, ports_in, memory_in}
use Rattle.saved.specs.Check.{save_verdict, load_verdict}
use Rattle.saved.specs.Outcome.{filled_by, loading_by, Saves, Loads}

unsaved : (v : Result (Unit {0}) Refusal) (r : Refusal) (after before : List ℕ) → Err r ≡ v → filled_by v after before ≡ before
unsaved (Ok good) r after before e = absurd cc
unsaved (Err q) r after before e = refl

pub save_refused : (m : Machine) (x o z z' : List ℕ) (r : Refusal) → Saves m x o z (Err r) z' → z' ≡ z
save_refused m x o z z' r s = s.out ∙ unsaved (save_verdict m (length x) (length o) (length z)) r (saved_of m o x) z s.answer

module _ (r : NotLoaded) (m k : Machine) where
  unloaded : (v : Result (Unit {0}) Refusal) (after before : List ℕ) → Err r ≡ loading_by v k m → filled_by v after before ≡ before
  unloaded (Ok good) after before e = absurd cc
  unloaded (Err q) after before e = refl

  handed : (v : Result (Unit {0}) Refusal) → Err r ≡ loading_by v k m → r.machine ≡ m
  handed (Ok good) e = absurd cc
  handed (Err q) e = let f : r ≡ record { reason = q; machine = m } = cc in ap (λ (n : NotLoaded). n.machine) f

pub load_refused : (m : Machine) (s x o x' o' : List ℕ) (r : NotLoaded) → Loads m s x o (Err r) x' o'
    → (r.machine ≡ m) × (x' ≡ x) × (o' ≡ o)
load_refused m s x o x' o' r l =
    let v = load_verdict s (length x) (length o) in (
      handed r m (machine_in s) v l.answer,
      l.memory ∙ unloaded r m (machine_in s) v (memory_in s) x l.answer,
      l.outputs ∙ unloaded r m (machine_in s) v (ports_in s) o l.answer,
    )
