-- What a line that was judged a data record shows: its fields, and the digits of its data, which lie in the middle of it.
-- Assumes nothing.
use Prim.Native.Nat.{ℕ, zero, suc, ◌+◌, ◌*◌, ◌≤◌}
use mathlib.Core.Path.{◌≡◌, refl}
use mathlib.Core.Bool.{true}
use mathlib.Core.List.{List, [], ◌∷◌}
use native.Mathlib.Omega.{arith}
use lib.ListN.{length, take, drop}
use lib.Seq.{drop-drop}
use Rattle.std.specs.Prelude.{Ok}
use Rattle.intel_hex.specs.declared.record.Line.TheVariants.{Data}
use Rattle.intel_hex.specs.Digits.{all_hex, bytes_in}
use Rattle.intel_hex.specs.Record.{Readable, record_count, record_address, record_data, line_is}
use Rattle.intel_hex.proofs.Scan.{hex_front, hex_rest}
use Rattle.intel_hex.proofs.Formed.{data_shows, formed_length, formed_fields}

-- the bytes of the first digits
pub bytes_front : (n m : ℕ) (s : List ℕ) → m ≡ 2 * n → bytes_in (take m s) ≡ take n (bytes_in s)
unfolding bytes_in
bytes_front zero m s e = rw e
bytes_front (suc n) m [] e = let two : m ≡ suc (suc (2 * n)) = omega (arith, e) in rw two
bytes_front (suc n) m (c ∷ []) e = let two : m ≡ suc (suc (2 * n)) = omega (arith, e) in rw two
bytes_front (suc n) m (c ∷ b ∷ s) e = let two : m ≡ suc (suc (2 * n)) = omega (arith, e) in rw (two, bytes_front n (2 * n) s refl)

module _ (l : List ℕ) (h : line_is l ≡ Ok Data) where
  pub data_fields : Readable l
  data_fields = formed_fields l (data_shows l h).0

  pub data_size : length l ≡ 2 * record_count l + 11
  data_size = formed_length l (data_shows l h).0

  pub data_room : record_address l + record_count l ≤ 65536
  data_room = (data_shows l h).1

  pub data_hex : (m : ℕ) → all_hex (take m (drop 9 l)) ≡ true
  data_hex m = hex_front m _ (rw (← drop-drop 8 1 l) (hex_rest (drop 1 l) 8 data_fields.1))

  pub data_bytes : (m : ℕ) → m ≡ 2 * record_count l → bytes_in (take m (drop 9 l)) ≡ record_data l
  data_bytes m e = bytes_front (record_count l) m (drop 9 l) e

-- all of these
pub ruleset landing = (data_fields, data_size, data_room, data_hex, data_bytes)
