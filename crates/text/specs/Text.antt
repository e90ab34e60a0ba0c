-- Characters written one after the other into lent bytes. Cited by `text` and by every function that writes.
use Rattle.std.specs.Prelude.{ℕ, ◌+◌, List, [], ◌∷◌, length, set, ltb}
use Rattle.laws.specs.Choice.{pick}

-- LF, which ends a line
abbrev pub feed : ℕ
feed = 10

-- lent bytes, and the place where the next character goes
pub record Text : Type 0 where
  pub bytes : List ℕ
  pub place : ℕ

unfoldable pub text_of : List ℕ → ℕ → Text
text_of bytes place = record { bytes = bytes; place = place }

-- the character c more; where the bytes are full it is left out
unfoldable pub put_of : ℕ → Text → Text
put_of c t =
    record {
      bytes = set t.bytes t.place c;
      place = pick (ltb t.place (length t.bytes)) (t.place + 1) t.place;
    }

-- the characters s more
unfoldable pub written_of : List ℕ → Text → Text
written_of [] t = t
written_of (c ∷ s) t = written_of s (put_of c t)
