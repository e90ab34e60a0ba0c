-- A line that ends in CR LF, and a written record as such a line.
-- Assumes nothing.
use Prim.Native.Nat.{ℕ, zero, suc, ◌+◌, ◌-◌, ◌/◌, ◌%◌, ◌<◌}
use mathlib.Core.Path.{◌≡◌, refl}
use mathlib.Core.Bool.{false}
use mathlib.Core.List.{List, [], ◌∷◌, ◌++◌, append_assoc}
use native.Mathlib.Omega.{arith}
use lib.Dec.{eqb}
use lib.ListN.{length, length-append}
use lib.Seq.{get_or-append-add, get_or-append_seam, take-append_seam}
use Rattle.text.specs.Text.{feed}
use Rattle.text.specs.Numbers.{byte_of}
use Rattle.intel_hex.specs.Lines.{carriage, text_lines, ending_of, bare_of}
use Rattle.intel_hex.specs.Digits.{digits_of}
use Rattle.intel_hex.specs.Record.{colon, body_of, checksum_of, record_of}
use Rattle.text.specs.Bytes.{Bytes}
use Rattle.text.proofs.Bytes.{bytes_cons, bytes_both}
use Rattle.intel_hex.proofs.Pieces.{digits_both}
use Rattle.intel_hex.proofs.Values.{digit_no_feed}

-- no line ends within l
abbrev pub NoFeed : List ℕ → Type 0
NoFeed [] = Unit
NoFeed (c ∷ l) = (eqb c feed ≡ false) × NoFeed l

-- such a line and what follows it
pub lines_ended : (l z : List ℕ) → NoFeed l → text_lines (l ++ carriage ∷ feed ∷ z) ≡ (l ++ carriage ∷ feed ∷ []) ∷ text_lines z
unfolding text_lines
lines_ended [] z h = refl
lines_ended (c ∷ l) z h = rw (h.0, lines_ended l z h.1)

pub bare_ended : (l : List ℕ) → bare_of (l ++ carriage ∷ feed ∷ []) ≡ l
unfolding bare_of ending_of
bare_ended l =
    let one : length l + 2 - 1 ≡ length l + 1 = omega arith in
    let two : length l + 2 - 2 ≡ length l = omega arith in
    rw (length-append, one, two, get_or-append-add, get_or-append_seam, two, take-append_seam)

-- no line ends within digits
digits_no_feed : (s : List ℕ) → Bytes s → NoFeed (digits_of s)
unfolding digits_of byte_of
digits_no_feed [] h = tt
digits_no_feed (b ∷ s) h =
    (digit_no_feed (b / 16) (omega (arith, h 0)), (digit_no_feed (b % 16) (omega arith), digits_no_feed s (λ j. h (suc j))))

-- a record's bytes, and a record without its ending
abbrev pub bytes_for : ℕ → ℕ → List ℕ → List ℕ
bytes_for t a d = body_of t a d ++ checksum_of (body_of t a d) ∷ []

abbrev pub bare_for : ℕ → ℕ → List ℕ → List ℕ
bare_for t a d = colon ∷ digits_of (bytes_for t a d)

record_line : (t a : ℕ) (d : List ℕ) → record_of t a d ≡ bare_for t a d ++ carriage ∷ feed ∷ []
unfolding record_of
record_line t a d = rw digits_both

pub record_bare : (t a : ℕ) (d : List ℕ) → bare_of (record_of t a d) ≡ bare_for t a d
record_bare t a d = rw (record_line, bare_ended)

module _ (t a : ℕ) (d : List ℕ) (kind : t < 256) (place : a < 65536) (few : length d < 256) (bytes : Bytes d) where
  pub record_bytes : Bytes (bytes_for t a d)
  record_bytes zero = few
  record_bytes (suc zero) = omega arith
  record_bytes (suc (suc zero)) = omega arith
  record_bytes (suc (suc (suc zero))) = kind
  record_bytes (suc (suc (suc (suc j)))) =
      bytes_both d _ bytes (bytes_cons (checksum_of (body_of t a d)) [] (omega arith) (λ i. omega arith)) j

  pub record_first : (z : List ℕ) → text_lines (record_of t a d ++ z) ≡ record_of t a d ∷ text_lines z
  record_first z = rw (record_line, append_assoc, lines_ended (bare_for t a d) z (refl, digits_no_feed _ record_bytes))
