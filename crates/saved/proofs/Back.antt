-- What the 24 bytes of a machine say, whatever byte stands at 13 and whatever follows. Assumes nothing.
use Prim.Native.Nat.{ℕ}
use mathlib.Core.Path.{◌≡◌, refl}
use mathlib.Core.Bool.{Bool, true, false}
use mathlib.Core.List.{List, ◌++◌}
use lib.Dec.{eqb, leb}
use Rattle.alu.specs.Flags.{bit_of}
use Rattle.machine.specs.declared.record.Machine.{Machine}
use Rattle.saved.specs.Header.{header_with}
use Rattle.saved.specs.Fields.{word_at, long_at, registers_in, lines_in}
use Rattle.saved.proofs.Numbers.{word_back, long_back}

-- INTE as a byte
bit_back : (b : Bool) → eqb (bit_of b) 1 ≡ b
bit_back true = refl
bit_back false = refl

pub bit_range : (b : Bool) → leb (bit_of b) 1 ≡ true
bit_range true = refl
bit_range false = refl

-- the machine's registers, levels and clock
module _ (what : ℕ) (m : Machine) (t : List ℕ) where
  pub registers_back : registers_in (header_with what m ++ t) ≡ m.regs
  unfolding header_with registers_in word_at
  registers_back =
      λ i.
      record {
        a = m.regs.a;
        f = m.regs.f;
        b = m.regs.b;
        c = m.regs.c;
        d = m.regs.d;
        e = m.regs.e;
        h = m.regs.h;
        l = m.regs.l;
        sp = word_back m.regs.sp i;
        pc = word_back m.regs.pc i;
        inte = bit_back m.regs.inte i;
      }

  pub lines_back : lines_in (header_with what m ++ t) ≡ m.lines
  unfolding header_with lines_in
  lines_back = refl

  pub clock_back : long_at (header_with what m ++ t) 14 ≡ m.clock
  unfolding header_with long_at
  clock_back = long_back m.clock
