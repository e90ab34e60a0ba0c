-- Lines that document 01 prints for 3E 05 76. Each side is computed.
-- Assumes nothing.
use mathlib.Core.Path.{◌≡◌, refl}
use mathlib.Core.List.{[], ◌∷◌}
use Rattle.text.specs.Numbers.{digit_of, byte_of, decimal_in, decimal_of}
use Rattle.listing.specs.Lines.{name_of, state_line_of, last_line_of}
use Rattle.listing.specs.Listing.{before_halt_of, state_lines_of, listing_of}

-- "2 T3 1 0000 3E", "11 T1 9 0003 00" and a hold, "15 HOLD 2 0000 00"
fetched : state_line_of 2 (3 ∷ 1 ∷ 0 ∷ 0 ∷ 62 ∷ 0 ∷ 1 ∷ 1 ∷ [])
    ≡ 50 ∷ 32 ∷ 84 ∷ 51 ∷ 32 ∷ 49 ∷ 32 ∷ 48 ∷ 48 ∷ 48 ∷ 48 ∷ 32 ∷ 51 ∷ 69 ∷ 10 ∷ []
unfolding state_line_of name_of byte_of decimal_of decimal_in digit_of
fetched = refl

halting : state_line_of 11 (1 ∷ 9 ∷ 3 ∷ 0 ∷ 0 ∷ 138 ∷ 2 ∷ 1 ∷ [])
    ≡ 49 ∷ 49 ∷ 32 ∷ 84 ∷ 49 ∷ 32 ∷ 57 ∷ 32 ∷ 48 ∷ 48 ∷ 48 ∷ 51 ∷ 32 ∷ 48 ∷ 48 ∷ 10 ∷ []
unfolding state_line_of name_of byte_of decimal_of decimal_in digit_of
halting = refl

held : state_line_of 15 (7 ∷ 2 ∷ 0 ∷ 0 ∷ 0 ∷ 0 ∷ 2 ∷ 3 ∷ [])
    ≡ 49 ∷ 53 ∷ 32 ∷ 72 ∷ 79 ∷ 76 ∷ 68 ∷ 32 ∷ 50 ∷ 32 ∷ 48 ∷ 48 ∷ 48 ∷ 48 ∷ 32 ∷ 48 ∷ 48 ∷ 10 ∷ []
unfolding state_line_of name_of byte_of decimal_of decimal_in digit_of
held = refl

-- "A 05 PC 0003 STATES 14"
ended : last_line_of 5 3 14
    ≡ 65 ∷ 32 ∷ 48 ∷ 53 ∷ 32 ∷ 80 ∷ 67 ∷ 32 ∷ 48 ∷ 48 ∷ 48 ∷ 51 ∷ 32 ∷ 83 ∷ 84 ∷ 65 ∷ 84 ∷ 69 ∷ 83 ∷ 32 ∷ 49 ∷ 52 ∷ 10 ∷ []
unfolding last_line_of byte_of decimal_of decimal_in digit_of
ended = refl

-- the listing of three states, of which the second is a halt state, and of three where the trace has one row and a byte:
-- "0 T1 1 0000 3E" and "A 05 PC 0003 STATES 1"
halted : listing_of (1 ∷ 1 ∷ 0 ∷ 0 ∷ 62 ∷ 0 ∷ 1 ∷ 1 ∷ 8 ∷ 0 ∷ 0 ∷ 0 ∷ 0 ∷ 0 ∷ 0 ∷ 0 ∷ 1 ∷ 1 ∷ 0 ∷ 0 ∷ 0 ∷ 0 ∷ 0 ∷ 0 ∷ []) 3 5 3
    ≡ 48 ∷ 32 ∷ 84 ∷ 49 ∷ 32 ∷ 49 ∷ 32 ∷ 48 ∷ 48 ∷ 48 ∷ 48 ∷ 32 ∷ 51 ∷ 69 ∷ 10 ∷ 65 ∷ 32 ∷ 48 ∷ 53 ∷ 32 ∷ 80 ∷ 67 ∷ 32 ∷ 48 ∷ 48 ∷ 48 ∷ 51 ∷ 32 ∷ 83 ∷ 84 ∷ 65 ∷ 84 ∷ 69 ∷ 83 ∷ 32 ∷ 49 ∷ 10 ∷ []
unfolding listing_of before_halt_of state_lines_of state_line_of last_line_of name_of byte_of decimal_of decimal_in digit_of
halted = refl

short : listing_of (1 ∷ 1 ∷ 0 ∷ 0 ∷ 62 ∷ 0 ∷ 1 ∷ 1 ∷ 1 ∷ []) 3 5 3
    ≡ 48 ∷ 32 ∷ 84 ∷ 49 ∷ 32 ∷ 49 ∷ 32 ∷ 48 ∷ 48 ∷ 48 ∷ 48 ∷ 32 ∷ 51 ∷ 69 ∷ 10 ∷ 65 ∷ 32 ∷ 48 ∷ 53 ∷ 32 ∷ 80 ∷ 67 ∷ 32 ∷ 48 ∷ 48 ∷ 48 ∷ 51 ∷ 32 ∷ 83 ∷ 84 ∷ 65 ∷ 84 ∷ 69 ∷ 83 ∷ 32 ∷ 49 ∷ 10 ∷ []
unfolding listing_of before_halt_of state_lines_of state_line_of last_line_of name_of byte_of decimal_of decimal_in digit_of
short = refl
