-- The paper's number for every answer of reading and writing, and the line at fault. Source: request W1. Cited by `intel_hex::answer`.
use Rattle.std.specs.Prelude.{ℕ, Result, Ok, Err}
use Rattle.intel_hex.specs.declared.answer.Fault.{Fault}
use Rattle.intel_hex.specs.declared.answer.Refusal.{Refusal}
use Rattle.intel_hex.specs.declared.answer.Refusal.TheVariants.{MemorySize, Malformed, OtherType, PastEnd, NoEnd, OutputSize}

-- read, or a fault: no byte is changed
abbrev pub Reading : Type 0
Reading = Result (Unit {0}) Fault

-- written, a text of this length, or a refusal: no byte is changed
abbrev pub Writing : Type 0
Writing = Result ℕ Refusal

-- the fault for a reason at a line
abbrev pub fault_at : Refusal → ℕ → Fault
fault_at reason line = record { reason = reason; line = line }

-- the paper's number of each refusal, and of each answer
abbrev pub refusal_number : Refusal → ℕ
refusal_number MemorySize = 1
refusal_number Malformed = 15
refusal_number OtherType = 16
refusal_number PastEnd = 17
refusal_number NoEnd = 18
refusal_number OutputSize = 19

abbrev pub reading_number : Reading → ℕ
reading_number (Ok read) = 0
reading_number (Err fault) = refusal_number fault.reason

abbrev pub writing_number : Writing → ℕ
writing_number (Ok length) = 0
writing_number (Err reason) = refusal_number reason

-- the line at fault, from 1 on; 0 where no line is
abbrev pub reading_line : Reading → ℕ
reading_line (Ok read) = 0
reading_line (Err fault) = fault.line

-- how many characters were written, none after a refusal
abbrev pub writing_length : Writing → ℕ
writing_length (Ok length) = length
writing_length (Err reason) = 0
