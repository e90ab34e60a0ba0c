-- A written record is good: its fields, its form and what it is.
-- Assumes nothing.
use Prim.Native.Nat.{ℕ, ◌+◌, ◌*◌, ◌/◌, ◌%◌, ◌≤◌, ◌<◌}
use mathlib.Core.Path.{◌≡◌, refl}
use mathlib.Core.Bool.{true}
use mathlib.Core.List.{List, [], ◌∷◌, ◌++◌}
use native.Mathlib.Omega.{arith}
use lib.ListN.{length, length-append}
use lib.Seq.{take-append_seam}
use borrow.Author.Tests.{eq-eqb, le-leb}
use Rattle.std.specs.Prelude.{Ok}
use Rattle.text.specs.Numbers.{digit_of, byte_of}
use Rattle.intel_hex.specs.declared.record.Line.TheVariants.{Data, End}
use Rattle.intel_hex.specs.Lines.{bare_of, ending_of}
use Rattle.intel_hex.specs.Digits.{is_hex, digit_value, two_digits, byte_at, bytes_in, digits_of, byte_sum}
use Rattle.intel_hex.specs.Record.{record_count, record_address, record_type, record_data, record_sound, line_formed, line_is, body_of, checksum_of, record_of}
use Rattle.text.specs.Bytes.{Bytes}
use Rattle.text.proofs.Bytes.{bytes_drop}
use Rattle.intel_hex.proofs.Pieces.{digits_length, sum_both}
use Rattle.intel_hex.proofs.Values.{pair_back, digits_back, digits_hex}
use Rattle.intel_hex.proofs.Split.{bytes_for, record_bare, record_bytes}

-- the byte at the end makes the sum 0 modulo 256
sums : (s : List ℕ) → byte_sum (s ++ checksum_of s ∷ []) % 256 ≡ 0
unfolding byte_sum
sums s = rw sum_both (omega arith)

-- the end record, computed
pub end_line : line_is (bare_of (record_of 1 0 [])) ≡ Ok End
unfolding line_is line_formed record_sound bare_of ending_of record_of digits_of byte_of digit_of byte_at two_digits digit_value is_hex bytes_in byte_sum
end_line = refl

module _ (a : ℕ) (d : List ℕ) (place : a < 65536) (few : length d < 256) (bytes : Bytes d) where
  all : Bytes (bytes_for 0 a d)
  all = record_bytes 0 a d (omega arith) place few bytes

  -- the fields
  pub data_count : record_count (bare_of (record_of 0 a d)) ≡ length d
  unfolding byte_at digits_of byte_of
  data_count = rw (record_bare, pair_back (length d) few)

  pub data_type : record_type (bare_of (record_of 0 a d)) ≡ 0
  unfolding byte_at digits_of byte_of
  data_type = rw (record_bare, pair_back 0 (omega arith))

  pub data_address : record_address (bare_of (record_of 0 a d)) ≡ a
  unfolding byte_at digits_of byte_of
  data_address = rw (record_bare, pair_back (a / 256) (omega arith), pair_back (a % 256) (omega arith)) (omega arith)

  pub data_data : record_data (bare_of (record_of 0 a d)) ≡ d
  unfolding digits_of byte_of
  data_data =
      let back = digits_back (d ++ checksum_of (body_of 0 a d) ∷ []) (bytes_drop 4 (bytes_for 0 a d) all) in
      rw (data_count, record_bare, back, take-append_seam)

  -- the form
  data_length : length (bare_of (record_of 0 a d)) ≡ 2 * length d + 11
  data_length = rw (record_bare, digits_length, length-append) (omega arith)

  pub data_formed : line_formed (bare_of (record_of 0 a d)) ≡ true
  unfolding line_formed record_sound
  data_formed = rw (data_length, data_count, data_type, record_bare, eq-eqb _ _ refl, digits_hex _ all, digits_back _ all, sums)

  pub data_line : a + length d ≤ 65536 → line_is (bare_of (record_of 0 a d)) ≡ Ok Data
  unfolding line_is
  data_line fits = rw (data_formed, data_type, data_address, data_count, le-leb _ _ fits)
