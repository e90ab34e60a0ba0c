-- Numbers as characters. Source: document 01, the printing program ("decimal", "hex digits"). Cited by `text::numbers`.
use Rattle.std.specs.Prelude.{ℕ, zero, suc, ◌+◌, ◌/◌, ◌%◌, List, [], ◌∷◌, ◌++◌, ltb}
use Rattle.laws.specs.Choice.{pick}

-- the digit d, below 16: 0 to 9, then A to F
unfoldable pub digit_of : ℕ → ℕ
digit_of d = pick (ltb d 10) (48 + d) (55 + d)

-- a byte as two hex digits
unfoldable pub byte_of : ℕ → List ℕ
byte_of b = digit_of (b / 16) ∷ digit_of (b % 16) ∷ []

-- n in decimal, without zeros in front; the first number bounds the digits before the last, and n itself is enough
unfoldable pub decimal_in : ℕ → ℕ → List ℕ
decimal_in zero n = digit_of n ∷ []
decimal_in (suc k) n = pick (ltb n 10) (digit_of n ∷ []) (decimal_in k (n / 10) ++ digit_of (n % 10) ∷ [])

unfoldable pub decimal_of : ℕ → List ℕ
decimal_of n = decimal_in n n
