-- Intel's symbols: the registers, register pairs and conditions that a digit of an opcode stands for. Source: Intel's 8080
-- manual, "Symbols and abbreviations". Of the rules below this shares the record of registers and its setters, and the flags
-- of a flag byte. Cited by Manual.
use Rattle.std.specs.Prelude.{ℕ, ◌/◌, ◌%◌, Bool, not, [], ◌∷◌, get_or}
use Rattle.alu.specs.declared.flags.Flags.{Flags}
use Rattle.alu.specs.Flags.{flag_byte_of, flags_of}
use Rattle.effect.specs.declared.registers.Registers.{Registers}
use Rattle.effect.specs.Registers.{word, with_a, with_f, with_de, with_hl, with_sp}

-- the high-order and the low-order byte of a 16-bit number
abbrev pub high : ℕ → ℕ
high x = x / 256

abbrev pub low : ℕ → ℕ
low x = x % 256

-- the flags of the registers r, and r with the flags x
abbrev pub flags : Registers → Flags
flags r = flags_of r.f

abbrev pub flagging : Flags → Registers → Registers
flagging x r = with_f (flag_byte_of x) r

-- r with two bytes in B and C
abbrev pub with_bc : ℕ → ℕ → Registers → Registers
with_bc x y r =
    record { a = r.a; f = r.f; b = x; c = y; d = r.d; e = r.e; h = r.h; l = r.l; sp = r.sp; pc = r.pc; inte = r.inte }

-- DDD or SSS: 000 B, 001 C, 010 D, 011 E, 100 H, 101 L, 111 A; 110 is no register. What is in it, and r with v in it
unfoldable pub register : ℕ → Registers → ℕ
register n r = get_or (r.b ∷ r.c ∷ r.d ∷ r.e ∷ r.h ∷ r.l ∷ 0 ∷ r.a ∷ []) n 0

unfoldable pub to_register : ℕ → ℕ → Registers → Registers
to_register n v r =
    get_or
    (with_bc v r.c r
    ∷ with_bc r.b v r
    ∷ with_de v r.e r
    ∷ with_de r.d v r
    ∷ with_hl v r.l r
    ∷ with_hl r.h v r
    ∷ r
    ∷ with_a v r
    ∷ [])
    n
    r

-- RP: 00 BC, 01 DE, 10 HL, 11 SP. What is in it, and r with v in it
unfoldable pub pair : ℕ → Registers → ℕ
pair p r = get_or (word r.b r.c ∷ word r.d r.e ∷ word r.h r.l ∷ r.sp ∷ []) p 0

unfoldable pub to_pair : ℕ → ℕ → Registers → Registers
to_pair p v r =
    get_or (with_bc (high v) (low v) r ∷ with_de (high v) (low v) r ∷ with_hl (high v) (low v) r ∷ with_sp v r ∷ []) p r

-- RP of PUSH and POP: 00 BC, 01 DE, 10 HL, 11 PSW, which is A and the flag byte. Its two bytes, and r with two bytes x and y
-- in it; a flag byte from outside gets its fixed bits
unfoldable pub first : ℕ → Registers → ℕ
first p r = get_or (r.b ∷ r.d ∷ r.h ∷ r.a ∷ []) p 0

unfoldable pub second : ℕ → Registers → ℕ
second p r = get_or (r.c ∷ r.e ∷ r.l ∷ r.f ∷ []) p 0

unfoldable pub to_both : ℕ → ℕ → ℕ → Registers → Registers
to_both p x y r = get_or (with_bc x y r ∷ with_de x y r ∷ with_hl x y r ∷ with_a x (flagging (flags_of y) r) ∷ []) p r

-- CCC: 000 NZ, 001 Z, 010 NC, 011 C, 100 PO, 101 PE, 110 P, 111 M, under the flags x
unfoldable pub condition : ℕ → Flags → Bool
condition c x =
    get_or (not x.z ∷ x.z ∷ not x.cy ∷ x.cy ∷ not x.p ∷ x.p ∷ not x.s ∷ x.s ∷ []) c x.s
