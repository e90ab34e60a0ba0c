-- Laws of the definitions: a flag as a number, the flag byte and back, and steps that wrap. Cited by the crates above.
-- Assumes nothing.
use Rattle.std.proofs.Common.{◌≡◌, ℕ, ◌/◌, ◌%◌, ◌<◌, ◌≤◌, Bool, true, false, T, eqb, refl, arith, lit<, eqb→eq}
use lib.Bits.{bit_and, bit_or}
use Rattle.laws.proofs.Every.{every, below}
use Rattle.alu.specs.declared.flags.Flags.{Flags}
use Rattle.alu.specs.Flags.{bit_of, flag_byte_of, flags_of}
use Rattle.alu.specs.Words.{up_of, down_of}

pub bit_small : (c : Bool) → bit_of c < 2
bit_small true = lit< tt
bit_small false = lit< tt

-- a byte with the fixed bits forced: 0 at 5 and 3, 1 at 1
unfoldable pub forced : ℕ → ℕ
forced v = bit_or (bit_and v 0xD7) 2

forced_right : ℕ → Bool
unfolding forced flag_byte_of flags_of
forced_right v = eqb (flag_byte_of (flags_of v)) (forced v)

all_forced : T (every forced_right 256)
unfolding forced_right forced flag_byte_of flags_of
all_forced = tt

-- POP PSW: from a byte to the flags and back forces the fixed bits, and changes no other
pub flags_forced : (v : ℕ) → v < 256 → flag_byte_of (flags_of v) ≡ forced v
unfolding forced_right
flags_forced v h = eqb→eq (flag_byte_of (flags_of v)) (forced v) (below forced_right 256 all_forced v h)

bit_is : (n : ℕ) (c : Bool) → n ≡ bit_of c → eqb n 1 ≡ c
bit_is n true e = rw e
bit_is n false e = rw e

-- from the flags to the byte and back loses nothing
module _ (f : Flags) where
  byte : ℕ
  byte = flag_byte_of f

  bits : (byte / 128 % 2 ≡ bit_of f.s) × (byte / 64 % 2 ≡ bit_of f.z) × (byte / 16 % 2 ≡ bit_of f.ac)
      × (byte / 4 % 2 ≡ bit_of f.p) × (byte % 2 ≡ bit_of f.cy)
  unfolding byte flag_byte_of
  bits =
      let s = bit_small f.s in
      let z = bit_small f.z in
      let ac = bit_small f.ac in
      let p = bit_small f.p in
      let cy = bit_small f.cy in
      (omega arith, omega arith, omega arith, omega arith, omega arith)

  -- the fixed bits of a flag byte: 0 at 5 and 3, 1 at 1
  pub flags_fixed : (flag_byte_of f / 32 % 2 ≡ 0) × (flag_byte_of f / 8 % 2 ≡ 0) × (flag_byte_of f / 2 % 2 ≡ 1)
  unfolding flag_byte_of
  flags_fixed =
      let s = bit_small f.s in
      let z = bit_small f.z in
      let ac = bit_small f.ac in
      let p = bit_small f.p in
      let cy = bit_small f.cy in
      (omega arith, omega arith, omega arith)

  pub flags_kept : flags_of (flag_byte_of f) ≡ f
  unfolding byte flags_of
  flags_kept =
      λ i.
      record {
        s = bit_is (byte / 128 % 2) f.s bits.0 i;
        z = bit_is (byte / 64 % 2) f.z bits.1 i;
        ac = bit_is (byte / 16 % 2) f.ac bits.2 i;
        p = bit_is (byte / 4 % 2) f.p bits.3 i;
        cy = bit_is (byte % 2) f.cy bits.4 i;
      }

-- steps wrap at both ends, and one takes the other back
pub up_wraps : up_of 65535 1 ≡ 0
up_wraps = refl

pub down_wraps : down_of 0 1 ≡ 65535
down_wraps = refl

pub up_down : (x n : ℕ) → x < 65536 → n ≤ 65536 → down_of (up_of x n) n ≡ x
up_down x n h l = omega arith

pub down_up : (x n : ℕ) → x < 65536 → n ≤ 65536 → up_of (down_of x n) n ≡ x
down_up x n h l = omega arith
