-- The refusals of `save` and `load`, for demand 1: their tables in document 01, "Numbers returned", as plain conditions in the order
-- in which they are tested, and what an answer has to do with them. Proved in proofs/Saving.
use Rattle.std.specs.Prelude.{ℕ, ◌<◌, ◌≡◌, true, List, [], ◌∷◌, ◌↔◌, length, get_or, Result, Ok, Err}
use Rattle.opcodes.specs.Kinds.{is_none}
use Rattle.effect.specs.declared.kept.Kept.{Kept}
use Rattle.machine.specs.declared.record.Position.{Position}
use Rattle.machine.specs.declared.record.Position.TheVariants.{Fetch, Later, Wait, Hold, Halt, Stop}
use Rattle.machine.specs.declared.record.Machine.{Machine}
use Rattle.saved.specs.declared.answer.Refusal.{Refusal}
use Rattle.saved.specs.declared.answer.Refusal.TheVariants as refusal
use Rattle.saved.specs.declared.answer.NotLoaded.{NotLoaded}
use Rattle.saved.specs.Answer.{refusal_number, saving_number, loading_number}
use Rattle.saved.specs.Outcome.{Saves, Loads}
use Rattle.demands.specs.IllFormed.{◌or◌, ◌and◌, Not, WrongBit, IllFormed}

-- of the refusals in a list, q is the first whose condition holds; and none is
abbrev pub FirstOf : (Refusal → Type 0) → List Refusal → Refusal → Type 0
FirstOf Given [] q = ⊥
FirstOf Given (p ∷ ps) q = ((p ≡ q) and Given p) or (Not (Given p) and FirstOf Given ps q)

abbrev pub None : (Refusal → Type 0) → List Refusal → Type 0
None Given [] = Unit {0}
None Given (p ∷ ps) = Not (Given p) and None Given ps

-- "saving tests 1, 2 (output ports only), 8, 11, 14; loading tests 12, 13, then 1 and 2 for the buffers to be filled"
abbrev pub save_tests : List Refusal
save_tests =
    refusal.MemorySize ∷ refusal.PortSize ∷ refusal.IllFormed ∷ refusal.InsideInstruction ∷ refusal.OutputSize ∷ []

abbrev pub load_tests : List Refusal
load_tests = refusal.SavedSize ∷ refusal.FieldRange ∷ refusal.MemorySize ∷ refusal.PortSize ∷ []

-- "mode (0 fetch next, 1 halted, 2 stopped)" applies: "with an acknowledge's T1 next, none does"
abbrev pub HasMode : Kept → Position → Type 0
HasMode k Fetch = is_none k.ack ≡ true
HasMode k (Later c s) = ⊥
HasMode k (Wait c) = ⊥
HasMode k (Hold c) = ⊥
HasMode k Halt = Unit {0}
HasMode k Stop = Unit {0}

-- "13 covers fixed flag bits, INTE, mode, levels and the three zeros" of a saved form
abbrev pub OutOfRange : List ℕ → Type 0
OutOfRange s =
    WrongBit (get_or s 1 0)
    or (1 < get_or s 12 0)
    or (2 < get_or s 13 0)
    or ((1 < get_or s 18 0) or (1 < get_or s 19 0) or (8 < get_or s 20 0))
    or Not (get_or s 21 0 ≡ 0)
    or Not (get_or s 22 0 ≡ 0)
    or Not (get_or s 23 0 ≡ 0)

-- saving the machine m, memory x and output ports o into the output z, and loading the saved form s into x and o
abbrev pub SaveGiven : Machine → List ℕ → List ℕ → List ℕ → Refusal → Type 0
SaveGiven m x o z refusal.MemorySize = Not (length x ≡ 65536)
SaveGiven m x o z refusal.PortSize = Not (length o ≡ 256)
SaveGiven m x o z refusal.IllFormed = IllFormed m
SaveGiven m x o z refusal.InsideInstruction = Not (HasMode m.kept m.next)
SaveGiven m x o z refusal.SavedSize = ⊥
SaveGiven m x o z refusal.FieldRange = ⊥
SaveGiven m x o z refusal.OutputSize = Not (length z ≡ 65816)

abbrev pub LoadGiven : List ℕ → List ℕ → List ℕ → Refusal → Type 0
LoadGiven s x o refusal.MemorySize = Not (length x ≡ 65536)
LoadGiven s x o refusal.PortSize = Not (length o ≡ 256)
LoadGiven s x o refusal.IllFormed = ⊥
LoadGiven s x o refusal.InsideInstruction = ⊥
LoadGiven s x o refusal.SavedSize = Not (length s ≡ 65816)
LoadGiven s x o refusal.FieldRange = OutOfRange s
LoadGiven s x o refusal.OutputSize = ⊥

-- the machine that a load hands back
abbrev pub handed_back : Result Machine NotLoaded → Machine
handed_back (Ok machine) = machine
handed_back (Err fault) = fault.machine

-- what a save may answer, and leave in the output: a number exactly when it is the first of its table, and then no byte is changed
pub record SaveTaken (m : Machine) (x o z : List ℕ) (r : Result (Unit {0}) Refusal) (z' : List ℕ) : Type 0 where
  pub refused : (q : Refusal) → (saving_number r ≡ refusal_number q) ↔ FirstOf (SaveGiven m x o z) save_tests q
  pub unchanged : (q : Refusal) → saving_number r ≡ refusal_number q → z' ≡ z
  pub accepted : (saving_number r ≡ 0) ↔ None (SaveGiven m x o z) save_tests

-- and a load, in memory x' and output ports o': then the machine is the one that it was handed, too
pub record LoadTaken (m : Machine) (s x o : List ℕ) (r : Result Machine NotLoaded) (x' o' : List ℕ) : Type 0 where
  pub refused : (q : Refusal) → (loading_number r ≡ refusal_number q) ↔ FirstOf (LoadGiven s x o) load_tests q
  pub unchanged : (q : Refusal) → loading_number r ≡ refusal_number q → (handed_back r ≡ m) × (x' ≡ x) × (o' ≡ o)
  pub accepted : (loading_number r ≡ 0) ↔ None (LoadGiven s x o) load_tests

-- demand 1 for `save` and for `load`: what the contract allows is so, and two results that it allows coincide
pub record SavesOrRefuses : Type 0 where
  pub saves : (m : Machine) (x o z : List ℕ) (r : Result (Unit {0}) Refusal) (z' : List ℕ) → Saves m x o z r z' → SaveTaken m x o z r z'
  pub saves_once : (m : Machine) (x o z z₁ z₂ : List ℕ) (r r' : Result (Unit {0}) Refusal) → Saves m x o z r z₁ → Saves m x o z r' z₂
      → (r ≡ r') × (z₁ ≡ z₂)
  pub loads : (m : Machine) (s x o : List ℕ) (r : Result Machine NotLoaded) (x' o' : List ℕ) → Loads m s x o r x' o'
      → LoadTaken m s x o r x' o'
  pub loads_once : (m : Machine) (s x o x₁ o₁ x₂ o₂ : List ℕ) (r r' : Result Machine NotLoaded) → Loads m s x o r x₁ o₁
      → Loads m s x o r' x₂ o₂ → (r ≡ r') × (x₁ ≡ x₂) × (o₁ ≡ o₂)
