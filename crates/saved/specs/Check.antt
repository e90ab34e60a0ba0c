-- The tests of the arguments of saving and loading. Source: document 01, "Numbers returned". Cited by `save` and `load`.
use Rattle.std.specs.Prelude.{ℕ, Bool, List, Result, Ok, Err, length, eqb}
use Rattle.laws.specs.Choice.{pick}
use Rattle.machine.specs.declared.record.Machine.{Machine}
use Rattle.machine.specs.Well.{well_of}
use Rattle.saved.specs.declared.answer.Refusal.{Refusal}
use Rattle.saved.specs.declared.answer.Refusal.TheVariants.{MemorySize, PortSize, IllFormed, InsideInstruction}
use Rattle.saved.specs.declared.answer.Refusal.TheVariants.{SavedSize, FieldRange, OutputSize}
use Rattle.saved.specs.Header.{between_of}
use Rattle.saved.specs.Fields.{in_range}

-- the verdict v where the test holds, else a refusal
abbrev pub pass : Bool → Refusal → Result (Unit {0}) Refusal → Result (Unit {0}) Refusal
pass test reason v = pick test v (Err reason)

-- "saving tests 1, 2 (output ports only), 8, 11, 14": the machine m, memory of x bytes, output ports of o, an output of l
unfoldable pub save_verdict : Machine → ℕ → ℕ → ℕ → Result (Unit {0}) Refusal
save_verdict m x o l =
    pass (eqb x 65536) MemorySize
    (pass (eqb o 256) PortSize
    (pass (well_of m) IllFormed (pass (between_of m) InsideInstruction (pass (eqb l 65816) OutputSize (Ok tt)))))

-- "loading tests 12, 13, then 1 and 2 for the buffers to be filled (output ports only)": the saved form s
unfoldable pub load_verdict : List ℕ → ℕ → ℕ → Result (Unit {0}) Refusal
load_verdict s x o =
    pass (eqb (length s) 65816) SavedSize
    (pass (in_range s) FieldRange (pass (eqb x 65536) MemorySize (pass (eqb o 256) PortSize (Ok tt))))
