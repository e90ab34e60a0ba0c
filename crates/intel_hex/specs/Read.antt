-- A text read. Source: request W1. Cited by `intel_hex::read`.
use Rattle.std.specs.Prelude.{ℕ, ◌+◌, Result, Ok, Err, List, [], ◌∷◌, eqb}
use Rattle.std.proofs.lemmas.List.Edits.{sets}
use Rattle.laws.specs.Choice.{pick}
use Rattle.intel_hex.specs.declared.answer.Refusal.{Refusal}
use Rattle.intel_hex.specs.declared.answer.Refusal.TheVariants.{MemorySize, NoEnd}
use Rattle.intel_hex.specs.declared.record.Line.{Line}
use Rattle.intel_hex.specs.declared.record.Line.TheVariants.{Data, End}
use Rattle.intel_hex.specs.Answer.{Reading, fault_at}
use Rattle.intel_hex.specs.Lines.{text_lines, bare_of}
use Rattle.intel_hex.specs.Record.{record_address, record_data, line_is}

-- what is read at line n, where the lines after it give `after`: "What follows the end record is ignored", and "the first
-- faulty line decides"
abbrev pub judged_by : Result Line Refusal → ℕ → Reading → Reading
judged_by (Ok Data) n after = after
judged_by (Ok End) n after = Ok tt
judged_by (Err reason) n after = Err (fault_at reason n)

-- the lines from line n on; where no line is faulty and none is an end record, it is 18, which is no line's fault
unfoldable pub judged_from : ℕ → List (List ℕ) → Reading
judged_from n [] = Err (fault_at NoEnd 0)
judged_from n (line ∷ lines) = judged_by (line_is (bare_of line)) n (judged_from (n + 1) lines)

-- "The data part of a record .. lands at its address in memory": memory x after the record l
unfoldable pub landed_of : List ℕ → List ℕ → List ℕ
landed_of l x = sets x (record_address l) (record_data l)

-- "later records overwrite earlier ones; bytes that no record names stay": memory x after the lines up to the end record
abbrev pub landed_by : Result Line Refusal → List ℕ → List ℕ → List ℕ
landed_by (Ok Data) after x = after
landed_by (Ok End) after x = x
landed_by (Err reason) after x = x

unfoldable pub landed_from : List (List ℕ) → List ℕ → List ℕ
landed_from [] x = x
landed_from (line ∷ lines) x = landed_by (line_is (bare_of line)) (landed_from lines (landed_of (bare_of line) x)) x

-- the answer for a text and a memory of n bytes: "1 first"
unfoldable pub reading_of : List ℕ → ℕ → Reading
reading_of text n = pick (eqb n 65536) (judged_from 1 (text_lines text)) (Err (fault_at MemorySize 0))
