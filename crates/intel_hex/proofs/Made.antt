-- A record put together from its pieces: the colon, the digits of the four bytes before the data, those of the data and of the
-- last byte, and the line's ending.
-- Assumes nothing.
use Prim.Native.Nat.{ℕ, ◌+◌, ◌/◌, ◌%◌, ◌<◌}
use mathlib.Core.Path.{◌≡◌}
use mathlib.Core.List.{List, [], ◌∷◌}
use native.Mathlib.Omega.{arith}
use lib.ListN.{length}
use Rattle.text.specs.Text.{feed}
use Rattle.text.specs.Writer.{Adds}
use Rattle.text.specs.declared.Text.{Text}
use Rattle.text.specs.Numbers.{byte_of}
use Rattle.text.proofs.Writer.{writes_both, writes_more}
use Rattle.intel_hex.specs.Lines.{carriage}
use Rattle.intel_hex.specs.Digits.{digits_of, byte_sum}
use Rattle.intel_hex.specs.Record.{colon, body_of, checksum_of, record_of}
use Rattle.intel_hex.proofs.Pieces.{digits_both, digits_one, sum_both}

-- of type t, with the data d for address a
module _ (t a : ℕ) (d : List ℕ) where
  -- the bytes before the data
  abbrev pub head_of : List ℕ
  head_of = length d ∷ a / 256 ∷ a % 256 ∷ t ∷ []

  -- the last byte, by the sums of both parts
  check_made : (h b c : ℕ) → h ≡ byte_sum head_of % 256 → b ≡ byte_sum d % 256 → c < 256 → (c + (h + b) % 256) % 256 ≡ 0 → c ≡ checksum_of (body_of t a d)
  check_made h b c p q k z = omega (arith, sum_both head_of d, p, q, k, z)

  pub record_made : (h b c : ℕ) {s u v w x y : Text} → h ≡ byte_sum head_of % 256 → b ≡ byte_sum d % 256 → c < 256 → (c + (h + b) % 256) % 256 ≡ 0
      → Adds (colon ∷ []) s u → Adds (digits_of head_of) u v → Adds (digits_of d) v w → Adds (byte_of c) w x → Adds (carriage ∷ feed ∷ []) x y
      → Adds (record_of t a d) s y
  unfolding record_of
  record_made h b c p q k z e f g i j =
      rw (← check_made h b c p q k z, digits_both head_of d, digits_one)
      (writes_more colon e (writes_both (writes_both (writes_both f g) i) j))
