-- Records and texts that the definitions are held against; ␍ and ␊ stand for CR and LF. Each side is computed.
-- Assumes nothing.
use mathlib.Core.Path.{◌≡◌, refl}
use mathlib.Core.List.{[], ◌∷◌}
use Rattle.text.specs.Numbers.{digit_of, byte_of}
use Rattle.intel_hex.specs.declared.answer.Refusal.TheVariants.{MemorySize, Malformed, OtherType, PastEnd, NoEnd}
use Rattle.std.specs.Prelude.{Ok, Err}
use Rattle.intel_hex.specs.Answer.{fault_at}
use Rattle.intel_hex.specs.Lines.{text_lines, ending_of, bare_of}
use Rattle.intel_hex.specs.Digits.{is_hex, digit_value, two_digits, byte_at, bytes_in, digits_of, byte_sum}
use Rattle.intel_hex.specs.Record.{record_sound, line_formed, line_is, record_of}
use Rattle.intel_hex.specs.Read.{judged_from, reading_of}

-- ":0300300002337A1E␍␊" and ":00000001FF␍␊"
three_bytes : record_of 0 48 (2 ∷ 51 ∷ 122 ∷ [])
    ≡ 58 ∷ 48 ∷ 51 ∷ 48 ∷ 48 ∷ 51 ∷ 48 ∷ 48 ∷ 48 ∷ 48 ∷ 50 ∷ 51 ∷ 51 ∷ 55 ∷ 65 ∷ 49 ∷ 69 ∷ 13 ∷ 10 ∷ []
unfolding record_of digits_of byte_of digit_of byte_sum
three_bytes = refl

last_record : record_of 1 0 [] ≡ 58 ∷ 48 ∷ 48 ∷ 48 ∷ 48 ∷ 48 ∷ 48 ∷ 48 ∷ 49 ∷ 70 ∷ 70 ∷ 13 ∷ 10 ∷ []
unfolding record_of digits_of byte_of digit_of byte_sum
last_record = refl

-- digits in lower case, and a last line without an ending ":00000001ff"
small_letters : reading_of (58 ∷ 48 ∷ 48 ∷ 48 ∷ 48 ∷ 48 ∷ 48 ∷ 48 ∷ 49 ∷ 102 ∷ 102 ∷ []) 65536
    ≡ Ok tt
unfolding reading_of judged_from text_lines bare_of ending_of line_is line_formed record_sound byte_at two_digits digit_value is_hex bytes_in byte_sum
small_letters = refl

-- LF and CR LF; what follows the end record is ignored ":0100000005FA␊:00000001FF␍␊xyz"
mixed_endings : reading_of (58 ∷ 48 ∷ 49 ∷ 48 ∷ 48 ∷ 48 ∷ 48 ∷ 48 ∷ 48 ∷ 48 ∷ 53 ∷ 70 ∷ 65 ∷ 10 ∷ 58 ∷ 48 ∷ 48 ∷ 48 ∷ 48 ∷ 48 ∷ 48 ∷ 48 ∷ 49 ∷ 70 ∷ 70 ∷ 13 ∷ 10 ∷ 120 ∷ 121 ∷ 122 ∷ []) 65536
    ≡ Ok tt
unfolding reading_of judged_from text_lines bare_of ending_of line_is line_formed record_sound byte_at two_digits digit_value is_hex bytes_in byte_sum
mixed_endings = refl

-- a blank line "␍␊"
blank_line : reading_of (13 ∷ 10 ∷ []) 65536
    ≡ Err (fault_at Malformed 1)
unfolding reading_of judged_from text_lines bare_of ending_of line_is line_formed record_sound byte_at two_digits digit_value is_hex bytes_in byte_sum
blank_line = refl

-- a CR with no LF after it ":00000001FF␍"
lone_return : reading_of (58 ∷ 48 ∷ 48 ∷ 48 ∷ 48 ∷ 48 ∷ 48 ∷ 48 ∷ 49 ∷ 70 ∷ 70 ∷ 13 ∷ []) 65536
    ≡ Err (fault_at Malformed 1)
unfolding reading_of judged_from text_lines bare_of ending_of line_is line_formed record_sound byte_at two_digits digit_value is_hex bytes_in byte_sum
lone_return = refl

-- a blank after the record ":00000001FF ␊"
trailing_blank : reading_of (58 ∷ 48 ∷ 48 ∷ 48 ∷ 48 ∷ 48 ∷ 48 ∷ 48 ∷ 49 ∷ 70 ∷ 70 ∷ 32 ∷ 10 ∷ []) 65536
    ≡ Err (fault_at Malformed 1)
unfolding reading_of judged_from text_lines bare_of ending_of line_is line_formed record_sound byte_at two_digits digit_value is_hex bytes_in byte_sum
trailing_blank = refl

-- an end record with an address ":00000101FE␊"
end_address : reading_of (58 ∷ 48 ∷ 48 ∷ 48 ∷ 48 ∷ 48 ∷ 49 ∷ 48 ∷ 49 ∷ 70 ∷ 69 ∷ 10 ∷ []) 65536
    ≡ Err (fault_at Malformed 1)
unfolding reading_of judged_from text_lines bare_of ending_of line_is line_formed record_sound byte_at two_digits digit_value is_hex bytes_in byte_sum
end_address = refl

-- an end record with data ":0100000105F9␊"
end_data : reading_of (58 ∷ 48 ∷ 49 ∷ 48 ∷ 48 ∷ 48 ∷ 48 ∷ 48 ∷ 49 ∷ 48 ∷ 53 ∷ 70 ∷ 57 ∷ 10 ∷ []) 65536
    ≡ Err (fault_at Malformed 1)
unfolding reading_of judged_from text_lines bare_of ending_of line_is line_formed record_sound byte_at two_digits digit_value is_hex bytes_in byte_sum
end_data = refl

-- a record of type 02 whose data would go past hex FFFF: 16 comes before 17 ":02FFFF020102FB␊"
type_two : reading_of (58 ∷ 48 ∷ 50 ∷ 70 ∷ 70 ∷ 70 ∷ 70 ∷ 48 ∷ 50 ∷ 48 ∷ 49 ∷ 48 ∷ 50 ∷ 70 ∷ 66 ∷ 10 ∷ []) 65536
    ≡ Err (fault_at OtherType 1)
unfolding reading_of judged_from text_lines bare_of ending_of line_is line_formed record_sound byte_at two_digits digit_value is_hex bytes_in byte_sum
type_two = refl

-- one with a wrong checksum too: 15 comes before 16 ":02FFFF02010200␊"
type_two_sum : reading_of (58 ∷ 48 ∷ 50 ∷ 70 ∷ 70 ∷ 70 ∷ 70 ∷ 48 ∷ 50 ∷ 48 ∷ 49 ∷ 48 ∷ 50 ∷ 48 ∷ 48 ∷ 10 ∷ []) 65536
    ≡ Err (fault_at Malformed 1)
unfolding reading_of judged_from text_lines bare_of ending_of line_is line_formed record_sound byte_at two_digits digit_value is_hex bytes_in byte_sum
type_two_sum = refl

-- data past hex FFFF, in line 2 ":01FFFF000100␊:02FFFF000102FD␊"
past_end : reading_of (58 ∷ 48 ∷ 49 ∷ 70 ∷ 70 ∷ 70 ∷ 70 ∷ 48 ∷ 48 ∷ 48 ∷ 49 ∷ 48 ∷ 48 ∷ 10 ∷ 58 ∷ 48 ∷ 50 ∷ 70 ∷ 70 ∷ 70 ∷ 70 ∷ 48 ∷ 48 ∷ 48 ∷ 49 ∷ 48 ∷ 50 ∷ 70 ∷ 68 ∷ 10 ∷ []) 65536
    ≡ Err (fault_at PastEnd 2)
unfolding reading_of judged_from text_lines bare_of ending_of line_is line_formed record_sound byte_at two_digits digit_value is_hex bytes_in byte_sum
past_end = refl

-- no end record ":01FFFF000100"
no_end : reading_of (58 ∷ 48 ∷ 49 ∷ 70 ∷ 70 ∷ 70 ∷ 70 ∷ 48 ∷ 48 ∷ 48 ∷ 49 ∷ 48 ∷ 48 ∷ []) 65536
    ≡ Err (fault_at NoEnd 0)
unfolding reading_of judged_from text_lines bare_of ending_of line_is line_formed record_sound byte_at two_digits digit_value is_hex bytes_in byte_sum
no_end = refl

-- a memory of another size comes first
other_memory : reading_of ([]) 65535
    ≡ Err (fault_at MemorySize 0)
unfolding reading_of judged_from text_lines bare_of ending_of line_is line_formed record_sound byte_at two_digits digit_value is_hex bytes_in byte_sum
other_memory = refl
