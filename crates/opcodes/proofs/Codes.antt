-- What the digits of a code say, by computed tests over all codes of two digits.
-- Assumes nothing.
use mathlib.Core.Path.{◌≡◌}
use mathlib.Core.Bool.{Bool, ◌&&◌, ◌||◌}
use Prim.Native.Nat.{ℕ, ◌%◌, ◌<◌}
use lib.Dec.{T, eqb, ltb, leb}
use Rattle.laws.proofs.Every.{every, below, same, same→eq}
use Rattle.opcodes.specs.Codes.{operand, halting}
use Rattle.opcodes.specs.Kinds.{is_fetch, writes_of, kind_of, waits_of, reads_of}

waits_right : ℕ → Bool
waits_right code = same (waits_of code) (leb 16 code && ltb code halting)

all_wait : T (every waits_right 256)
unfolding waits_right waits_of kind_of writes_of
all_wait = tt

-- READY counts in every cycle but the halt acknowledge and the internal one
pub waits_is : (code : ℕ) → code < 256 → waits_of code ≡ (leb 16 code && ltb code halting)
unfolding waits_right
waits_is code h = same→eq (waits_of code) _ (below waits_right 256 all_wait code h)

reads_right : ℕ → Bool
reads_right code =
    same (reads_of code) (is_fetch code || (leb operand code && ltb code halting && eqb (code % 16) 0))

all_read : T (every reads_right 256)
unfolding reads_right reads_of kind_of writes_of
all_read = tt

-- a byte comes in where an address is, and none goes out
pub reads_is : (code : ℕ) → code < 256
    → reads_of code ≡ (is_fetch code || (leb operand code && ltb code halting && eqb (code % 16) 0))
unfolding reads_right
reads_is code h = same→eq (reads_of code) _ (below reads_right 256 all_read code h)
