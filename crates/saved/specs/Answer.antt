-- The paper's number for every answer of saving and loading. Source: document 01, "Numbers returned". Cited by `saved::answer`.
use Rattle.std.specs.Prelude.{ℕ, Result, Ok, Err}
use Rattle.machine.specs.declared.record.Machine.{Machine}
use Rattle.saved.specs.declared.answer.Refusal.{Refusal}
use Rattle.saved.specs.declared.answer.Refusal.TheVariants.{MemorySize, PortSize, IllFormed, InsideInstruction}
use Rattle.saved.specs.declared.answer.Refusal.TheVariants.{SavedSize, FieldRange, OutputSize}
use Rattle.saved.specs.declared.answer.NotLoaded.{NotLoaded}

-- the paper's number of each refusal, and of each answer
abbrev pub refusal_number : Refusal → ℕ
refusal_number MemorySize = 1
refusal_number PortSize = 2
refusal_number IllFormed = 8
refusal_number InsideInstruction = 11
refusal_number SavedSize = 12
refusal_number FieldRange = 13
refusal_number OutputSize = 14

abbrev pub saving_number : Result (Unit {0}) Refusal → ℕ
saving_number (Ok saved) = 0
saving_number (Err reason) = refusal_number reason

abbrev pub loading_number : Result Machine NotLoaded → ℕ
loading_number (Ok machine) = 0
loading_number (Err refused) = refusal_number refused.reason
