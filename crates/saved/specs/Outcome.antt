-- What saving and loading answer and leave. Source: document 01, "Numbers returned" and "Saved machine".
-- Cited by the public `save` and `load`.
use Rattle.std.specs.Prelude.{◌≡◌, List, ℕ, Result, Ok, Err, length}
use Rattle.machine.specs.declared.record.Machine.{Machine}
use Rattle.saved.specs.declared.answer.Refusal.{Refusal}
use Rattle.saved.specs.declared.answer.NotLoaded.{NotLoaded}
use Rattle.saved.specs.Header.{saved_of}
use Rattle.saved.specs.Fields.{machine_in, ports_in, memory_in}
use Rattle.saved.specs.Check.{save_verdict, load_verdict}

-- what is left of a buffer: filled anew, or as it was after a refusal
abbrev pub filled_by : Result (Unit {0}) Refusal → List ℕ → List ℕ → List ℕ
filled_by (Ok good) after before = after
filled_by (Err reason) after before = before

-- a load hands back the machine of the saved form, or after a refusal the one that it was handed
abbrev pub loading_by : Result (Unit {0}) Refusal → Machine → Machine → Result Machine NotLoaded
loading_by (Ok good) after before = Ok after
loading_by (Err reason) after before = Err (record { reason = reason; machine = before })

-- saving the machine m, memory x and output ports o into the output z: the answer r, and z' afterwards
pub record Saves (m : Machine) (x o z : List ℕ) (r : Result (Unit {0}) Refusal) (z' : List ℕ) : Type 0 where
  pub answer : r ≡ save_verdict m (length x) (length o) (length z)
  pub out : z' ≡ filled_by (save_verdict m (length x) (length o) (length z)) (saved_of m o x) z

-- loading the saved form s into memory x and output ports o, with the machine m handed in: the answer r, and x' and o'
pub record Loads (m : Machine) (s x o : List ℕ) (r : Result Machine NotLoaded) (x' o' : List ℕ) : Type 0 where
  pub answer : r ≡ loading_by (load_verdict s (length x) (length o)) (machine_in s) m
  pub memory : x' ≡ filled_by (load_verdict s (length x) (length o)) (memory_in s) x
  pub outputs : o' ≡ filled_by (load_verdict s (length x) (length o)) (ports_in s) o
