-- A record of Intel's format: a colon, then in hex digits the number of data bytes, the address (2 bytes, high first), the
-- type, the data and a byte that makes the sum of all bytes 0 modulo 256. Source: Intel's Hexadecimal Object File Format
-- Specification; request W1. Cited by `intel_hex::record`. l is a line without its ending.
use Rattle.std.specs.Prelude.{ℕ, ◌+◌, ◌-◌, ◌*◌, ◌/◌, ◌%◌, ◌≤◌, ◌≡◌, Result, Ok, Err, Bool, true, ◌&&◌, ◌||◌, not, List, [], ◌∷◌, ◌++◌, eqb, leb, length, get_or, take, drop}
use Rattle.laws.specs.Choice.{pick}
use Rattle.text.specs.Text.{feed}
use Rattle.intel_hex.specs.declared.answer.Refusal.{Refusal}
use Rattle.intel_hex.specs.declared.answer.Refusal.TheVariants.{Malformed, OtherType, PastEnd}
use Rattle.intel_hex.specs.declared.record.Fields.{Fields}
use Rattle.intel_hex.specs.declared.record.Line.{Line}
use Rattle.intel_hex.specs.declared.record.Line.TheVariants.{Data, End}
use Rattle.intel_hex.specs.Lines.{carriage}
use Rattle.intel_hex.specs.Digits.{all_hex, byte_at, bytes_in, digits_of, byte_sum}

abbrev pub colon : ℕ
colon = 58

-- the fields can be read: after the first character there are hex digits, and enough of them
abbrev pub Readable : List ℕ → Type 0
Readable l = (11 ≤ length l) × (all_hex (drop 1 l) ≡ true)

-- the fields
abbrev pub record_count : List ℕ → ℕ
record_count l = byte_at l 1

abbrev pub record_address : List ℕ → ℕ
record_address l = 256 * byte_at l 3 + byte_at l 5

abbrev pub record_type : List ℕ → ℕ
record_type l = byte_at l 7

abbrev pub fields_of : List ℕ → Fields
fields_of l = record { count = record_count l; address = record_address l; kind = record_type l }

abbrev pub record_data : List ℕ → List ℕ
record_data l = take (record_count l) (bytes_in (drop 9 l))

-- the bytes of a record add up to 0 modulo 256
abbrev pub checked : List ℕ → Bool
checked bytes = eqb (byte_sum bytes % 256) 0

-- a record of hex digits is sound: it has the length that its count says, its sum is right, and an end record has no data and
-- address 0
unfoldable pub record_sound : List ℕ → Bool
record_sound l =
    eqb (length l) (2 * record_count l + 11)
    && checked (bytes_in (drop 1 l))
    && (not (eqb (record_type l) 1) || (eqb (record_count l) 0 && eqb (record_address l) 0))

-- the line is formed; else it is a "malformed line (an end record with data or a nonzero address too) or wrong checksum"
unfoldable pub line_formed : List ℕ → Bool
line_formed l = eqb (get_or l 0 0) colon && all_hex (drop 1 l) && record_sound l

-- what a line is, its faults "in number order": 15 malformed, 16 other type, 17 data past hex FFFF
unfoldable pub line_is : List ℕ → Result Line Refusal
line_is l =
    pick (line_formed l)
    (pick (eqb (record_type l) 1) (Ok End)
    (pick (eqb (record_type l) 0) (pick (leb (record_address l + record_count l) 65536) (Ok Data) (Err PastEnd)) (Err OtherType)))
    (Err Malformed)

-- a record written, of type t, with the data d for address a: its bytes, the last of which makes the sum 0 modulo 256, and
-- its line, which ends in CR LF
abbrev pub body_of : ℕ → ℕ → List ℕ → List ℕ
body_of t a d = length d ∷ a / 256 ∷ a % 256 ∷ t ∷ d

abbrev pub checksum_of : List ℕ → ℕ
checksum_of bytes = (256 - byte_sum bytes % 256) % 256

unfoldable pub record_of : ℕ → ℕ → List ℕ → List ℕ
record_of t a d =
    colon ∷ digits_of (body_of t a d) ++ digits_of (checksum_of (body_of t a d) ∷ []) ++ carriage ∷ feed ∷ []
