-- Hex digits, two for a byte. Source: request W1, "digits are read in either case and written in capitals".
-- Cited by `intel_hex::digits`.
use Rattle.std.specs.Prelude.{ℕ, ◌+◌, ◌-◌, ◌*◌, ◌<◌, ◌≡◌, Bool, true, ◌&&◌, ◌||◌, List, [], ◌∷◌, ◌++◌, leb, length, get_or}
use Rattle.std.specs.List.{list_all}
use Rattle.laws.specs.Choice.{pick}
use Rattle.text.specs.Numbers.{byte_of}

-- a and b, and the characters between them
abbrev pub from_to : ℕ → ℕ → ℕ → Bool
from_to a b c = leb a c && leb c b

-- 0 to 9, A to F, a to f
unfoldable pub is_hex : ℕ → Bool
is_hex c = from_to 48 57 c || from_to 65 70 c || from_to 97 102 c

-- what a hex digit counts; any other character counts 0
unfoldable pub digit_value : ℕ → ℕ
digit_value c = pick (from_to 48 57 c) (c - 48) (pick (from_to 65 70 c) (c - 55) (pick (from_to 97 102 c) (c - 87) 0))

-- every character is a hex digit
abbrev pub all_hex : List ℕ → Bool
all_hex s = list_all is_hex s

-- the byte that two digits say, the high one first
unfoldable pub two_digits : ℕ → ℕ → ℕ
two_digits high low = 16 * digit_value high + digit_value low

-- the byte whose digits stand at i and after it
unfoldable pub byte_at : List ℕ → ℕ → ℕ
byte_at s i = two_digits (get_or s i 0) (get_or s (i + 1) 0)

-- two hex digits stand there
abbrev pub PairAt : List ℕ → ℕ → Type 0
PairAt s i = (i + 1 < length s) × (is_hex (get_or s i 0) ≡ true) × (is_hex (get_or s (i + 1) 0) ≡ true)

-- the bytes that digits say, two for each
unfoldable pub bytes_in : List ℕ → List ℕ
bytes_in [] = []
bytes_in (c ∷ []) = []
bytes_in (high ∷ low ∷ s) = two_digits high low ∷ bytes_in s

-- bytes as digits
unfoldable pub digits_of : List ℕ → List ℕ
digits_of [] = []
digits_of (b ∷ bytes) = byte_of b ++ digits_of bytes

-- the sum of bytes
unfoldable pub byte_sum : List ℕ → ℕ
byte_sum [] = 0
byte_sum (b ∷ bytes) = b + byte_sum bytes
