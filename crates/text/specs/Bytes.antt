-- Lists of bytes. Cited by the theorems of `intel_hex` and by the laws of `listing`.
use Rattle.std.specs.Prelude.{ℕ, ◌<◌, List, get_or}

-- what is in l are bytes, as in every slice of bytes
abbrev pub Bytes : List ℕ → Type 0
Bytes l = (j : ℕ) → get_or l j 0 < 256
