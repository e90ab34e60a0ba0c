-- There and back: what a written text is, and what reading it leaves. Source: request W1. Proved in `proofs/Trip.antt`.
use Rattle.std.specs.Prelude.{ℕ, ◌+◌, ◌≡◌, Ok, List, [], ◌∷◌, ◌++◌, take, drop}
use Rattle.intel_hex.specs.Answer.{Reading}
use Rattle.intel_hex.specs.declared.record.Line.TheVariants.{Data, End}
use Rattle.intel_hex.specs.Lines.{bare_of}
use Rattle.intel_hex.specs.Record.{line_is}
use Rattle.intel_hex.specs.Write.{range_of}

-- data records, and an end record after them, the last line; so each line is formed, its checksum right and its type 00 or 01
abbrev pub OnlyRecords : List (List ℕ) → Type 0
OnlyRecords [] = ⊥
OnlyRecords (line ∷ []) = line_is (bare_of line) ≡ Ok End
OnlyRecords (line ∷ next ∷ lines) = (line_is (bare_of line) ≡ Ok Data) × OnlyRecords (next ∷ lines)

-- memory y was read into, the answer is r, and y' is left: n bytes are those of memory x from start on, and no other changed
pub record Restored (x : List ℕ) (start n : ℕ) (y : List ℕ) (r : Reading) (y' : List ℕ) : Type 0 where
  pub answer : r ≡ Ok tt
  pub memory : y' ≡ take start y ++ range_of x start n ++ drop (start + n) y
