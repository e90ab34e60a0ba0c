-- What reading and writing answer and leave. Source: request W1. Cited by the public `read` and `write`.
use Rattle.std.specs.Prelude.{ℕ, ◌≡◌, Ok, Err, List, ◌++◌, length, drop}
use Rattle.intel_hex.specs.Answer.{Reading, Writing}
use Rattle.intel_hex.specs.Lines.{text_lines}
use Rattle.intel_hex.specs.Read.{landed_from, reading_of}
use Rattle.intel_hex.specs.Write.{hex_of, range_of, writing_of}

-- what is left of memory x by an answer: the text's records in it, or after a refusal as it was
abbrev pub memory_by : Reading → List ℕ → List ℕ → List ℕ
memory_by (Ok read) text x = landed_from (text_lines text) x
memory_by (Err fault) text x = x

-- what is left of the output z: the text s from its start on, "Output past the text keeps its bytes", or all as it was
abbrev pub output_by : Writing → List ℕ → List ℕ → List ℕ
output_by (Ok n) s z = s ++ drop n z
output_by (Err reason) s z = z

-- reading a text into memory x: the answer r, and x' afterwards
pub record Reads (text x : List ℕ) (r : Reading) (x' : List ℕ) : Type 0 where
  pub answer : r ≡ reading_of text (length x)
  pub memory : x' ≡ memory_by (reading_of text (length x)) text x

-- writing n bytes of memory x from start on into the output z: the answer r, and z' afterwards
pub record Writes (x : List ℕ) (start n : ℕ) (z : List ℕ) (r : Writing) (z' : List ℕ) : Type 0 where
  pub answer : r ≡ writing_of (length x) start n (length z)
  pub output : z' ≡ output_by (writing_of (length x) start n (length z)) (hex_of start (range_of x start n)) z
