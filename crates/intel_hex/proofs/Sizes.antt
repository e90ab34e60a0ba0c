-- How long a range, a record and a text are.
-- Assumes nothing.
use Prim.Native.Nat.{ℕ, zero, suc, ◌+◌, ◌*◌, ◌≤◌}
use mathlib.Core.Path.{◌≡◌, refl}
use mathlib.Core.List.{List, []}
use native.Mathlib.Omega.{arith}
use lib.ListN.{length, take, drop, length-append, length-take, length-drop}
use Rattle.intel_hex.specs.Record.{record_of}
use Rattle.intel_hex.specs.Write.{records_for, records_of, hex_of, range_of, length_for}
use Rattle.intel_hex.proofs.Pieces.{digits_length}

pub range_length : (x : List ℕ) (start n : ℕ) → start + n ≤ length x → length (range_of x start n) ≡ n
range_length x start n h = simp (length-take, length-drop) (omega arith)

record_length : (t a : ℕ) (d : List ℕ) → length (record_of t a d) ≡ 2 * length d + 13
unfolding record_of
record_length t a d = simp (length-append, digits_length) (omega arith)

-- k records that hold all of d
records_length : (k a : ℕ) (d : List ℕ) → length d ≤ 16 * k → length (records_of k a d) ≡ 2 * length d + 13 * k
unfolding records_of
records_length zero a d h = omega arith
records_length (suc k) a d h =
    let rest = records_length k (a + 16) (drop 16 d) (rw length-drop (omega arith)) in
    simp length-append
    (omega (arith, rest, record_length 0 a (take 16 d), length-take 16 d, length-drop 16 d))

-- a text is as long as foretold
pub hex_length : (a : ℕ) (d : List ℕ) → length (hex_of a d) ≡ length_for (length d)
unfolding hex_of length_for
hex_length a d =
    simp length-append
    (omega (arith, records_length (records_for (length d)) a d (omega arith), record_length 1 0 []))

-- the text of no byte, and of a whole memory; each side is computed
none_length : length_for 0 ≡ 13
unfolding length_for
none_length = refl

whole_length : length_for 65536 ≡ 184333
unfolding length_for
whole_length = refl
