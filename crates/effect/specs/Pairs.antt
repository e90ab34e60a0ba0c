-- The register pairs. Source: Intel's 8080 manual. Cited by `effect::registers`.
-- A choice stands in the fields, so that what does not change is seen not to.
use Rattle.std.specs.Prelude.{ℕ, ◌/◌, ◌%◌, [], ◌∷◌, ◌==◌, nat_lt, slice_index}
use Rattle.laws.specs.Choice.{pick}
use Rattle.alu.specs.Flags.{flag_byte_of, flags_of}
use Rattle.alu.specs.Words.{up_of}
use Rattle.effect.specs.declared.registers.Registers.{Registers}
use Rattle.effect.specs.Registers.{word}

-- the pair p of BC DE HL SP
unfoldable pub pair_of : ℕ → Registers → ℕ
pair_of p r = slice_index (word r.b r.c ∷ word r.d r.e ∷ word r.h r.l ∷ r.sp ∷ []) (p % 4)

-- the registers with v in the pair p
unfoldable pub with_pair : ℕ → ℕ → Registers → Registers
with_pair p v r =
    record {
      a = r.a;
      f = r.f;
      b = pick (p == 0) (v / 256) r.b;
      c = pick (p == 0) (v % 256) r.c;
      d = pick (p == 1) (v / 256) r.d;
      e = pick (p == 1) (v % 256) r.e;
      h = pick (p == 2) (v / 256) r.h;
      l = pick (p == 2) (v % 256) r.l;
      sp = pick (nat_lt p 3) r.sp v;
      pc = r.pc;
      inte = r.inte;
    }

-- the pair p of BC DE HL PSW with two bytes of the stack; "POP PSW forces the fixed bits"
unfoldable pub pop_pair : ℕ → ℕ → ℕ → Registers → Registers
pop_pair p high low r =
    record {
      a = pick (nat_lt p 3) r.a high;
      f = pick (nat_lt p 3) r.f (flag_byte_of (flags_of low));
      b = pick (p == 0) high r.b;
      c = pick (p == 0) low r.c;
      d = pick (p == 1) high r.d;
      e = pick (p == 1) low r.e;
      h = pick (p == 2) high r.h;
      l = pick (p == 2) low r.l;
      sp = up_of r.sp 2;
      pc = r.pc;
      inte = r.inte;
    }

-- the bytes of the pair p of BC DE HL PSW that PUSH writes
unfoldable pub pair_high_of : ℕ → Registers → ℕ
pair_high_of p r = slice_index (r.b ∷ r.d ∷ r.h ∷ r.a ∷ []) (p % 4)

unfoldable pub pair_low_of : ℕ → Registers → ℕ
pair_low_of p r = slice_index (r.c ∷ r.e ∷ r.l ∷ r.f ∷ []) (p % 4)
