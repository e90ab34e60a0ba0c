-- The registers by number, the pairs, and the registers with a part of them changed. Source: document 01, "The machine";
-- Intel's 8080 manual for the numbers. Cited by `effect::registers` and everything above.
use Rattle.std.specs.Prelude.{ℕ, ◌+◌, ◌*◌, ◌%◌, Bool, List, [], ◌∷◌, slice_index, slice_set}
use Rattle.alu.specs.Flags.{flag_byte_of}
use Rattle.alu.specs.declared.flags.Flags.{Flags}
use Rattle.alu.specs.declared.flags.Flagged.{Flagged}
use Rattle.effect.specs.declared.registers.Registers.{Registers}

-- a 16-bit number from its bytes
abbrev pub word : ℕ → ℕ → ℕ
word high low = high * 256 + low

-- the registers r with one part changed
abbrev pub with_a : ℕ → Registers → Registers
with_a v r =
    record { a = v; f = r.f; b = r.b; c = r.c; d = r.d; e = r.e; h = r.h; l = r.l; sp = r.sp; pc = r.pc; inte = r.inte }

abbrev pub with_f : ℕ → Registers → Registers
with_f v r =
    record { a = r.a; f = v; b = r.b; c = r.c; d = r.d; e = r.e; h = r.h; l = r.l; sp = r.sp; pc = r.pc; inte = r.inte }

abbrev pub with_de : ℕ → ℕ → Registers → Registers
with_de x y r =
    record { a = r.a; f = r.f; b = r.b; c = r.c; d = x; e = y; h = r.h; l = r.l; sp = r.sp; pc = r.pc; inte = r.inte }

abbrev pub with_hl : ℕ → ℕ → Registers → Registers
with_hl x y r =
    record { a = r.a; f = r.f; b = r.b; c = r.c; d = r.d; e = r.e; h = x; l = y; sp = r.sp; pc = r.pc; inte = r.inte }

abbrev pub with_sp : ℕ → Registers → Registers
with_sp v r =
    record { a = r.a; f = r.f; b = r.b; c = r.c; d = r.d; e = r.e; h = r.h; l = r.l; sp = v; pc = r.pc; inte = r.inte }

abbrev pub with_pc : ℕ → Registers → Registers
with_pc v r =
    record { a = r.a; f = r.f; b = r.b; c = r.c; d = r.d; e = r.e; h = r.h; l = r.l; sp = r.sp; pc = v; inte = r.inte }

abbrev pub with_inte : Bool → Registers → Registers
with_inte v r =
    record { a = r.a; f = r.f; b = r.b; c = r.c; d = r.d; e = r.e; h = r.h; l = r.l; sp = r.sp; pc = r.pc; inte = v }

-- other flags; and a result in A with its flags
unfoldable pub with_flags : Flags → Registers → Registers
with_flags x r = with_f (flag_byte_of x) r

unfoldable pub with_result : Flagged → Registers → Registers
with_result x r = with_a x.value (with_f (flag_byte_of x.flags) r)

-- the eight places that an opcode numbers: B C D E H L M A; M is no register
abbrev pub eight : Registers → List ℕ
eight r = r.b ∷ r.c ∷ r.d ∷ r.e ∷ r.h ∷ r.l ∷ 0 ∷ r.a ∷ []

unfoldable pub reg_of : ℕ → Registers → ℕ
reg_of n r = slice_index (eight r) (n % 8)

abbrev pub from_eight : List ℕ → Registers → Registers
from_eight x r =
    record {
      a = slice_index x 7;
      f = r.f;
      b = slice_index x 0;
      c = slice_index x 1;
      d = slice_index x 2;
      e = slice_index x 3;
      h = slice_index x 4;
      l = slice_index x 5;
      sp = r.sp;
      pc = r.pc;
      inte = r.inte;
    }

unfoldable pub with_reg : ℕ → ℕ → Registers → Registers
with_reg n v r = from_eight (slice_set (eight r) (n % 8) v) r
