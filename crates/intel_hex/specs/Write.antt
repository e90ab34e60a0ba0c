-- A range of memory as text. Source: request W1. Cited by `intel_hex::write`.
use Rattle.std.specs.Prelude.{ℕ, zero, suc, Ok, Err, ◌+◌, ◌*◌, ◌/◌, List, [], ◌++◌, eqb, leb, length, take, drop}
use Rattle.laws.specs.Choice.{pick}
use Rattle.intel_hex.specs.declared.answer.Refusal.TheVariants.{MemorySize, PastEnd, OutputSize}
use Rattle.intel_hex.specs.Answer.{Writing}
use Rattle.intel_hex.specs.Record.{record_of}

-- how many data records n bytes take: one for each 16, "the last shorter"
abbrev pub records_for : ℕ → ℕ
records_for n = (n + 15) / 16

-- k data records for the bytes d from an address on
unfoldable pub records_of : ℕ → ℕ → List ℕ → List ℕ
records_of zero address d = []
records_of (suc k) address d = record_of 0 address (take 16 d) ++ records_of k (address + 16) (drop 16 d)

-- "data records of 16 bytes, the last shorter, then the end record"
unfoldable pub hex_of : ℕ → List ℕ → List ℕ
hex_of address d = records_of (records_for (length d)) address d ++ record_of 1 0 []

-- the n bytes of memory x from start on
abbrev pub range_of : List ℕ → ℕ → ℕ → List ℕ
range_of x start n = take n (drop start x)

-- the length of the text of n bytes, foretold: two digits a byte, and 13 more characters a record
unfoldable pub length_for : ℕ → ℕ
length_for n = 2 * n + 13 * records_for n + 13

-- the answer for a memory of m bytes and an output of z, tested in number order: 1, 17 a range past hex FFFF, 19
unfoldable pub writing_of : ℕ → ℕ → ℕ → ℕ → Writing
writing_of m start n z =
    pick (eqb m 65536)
    (pick (leb (start + n) 65536) (pick (leb (length_for n) z) (Ok (length_for n)) (Err OutputSize)) (Err PastEnd))
    (Err MemorySize)
