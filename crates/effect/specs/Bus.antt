-- What a cycle puts on the bus, by the two digits of its code (opcodes, specs/Codes). Source: document 01, "Cycles" and
-- "Trace". Cited by `effect::bus`.
use Rattle.std.specs.Prelude.{ℕ, ◌+◌, ◌*◌, ◌/◌, ◌%◌, List, [], ◌∷◌, slice_index, slice_index_or}
use Rattle.alu.specs.Words.{up_of, down_of}
use Rattle.effect.specs.declared.registers.Registers.{Registers}
use Rattle.effect.specs.declared.kept.Kept.{Kept}
use Rattle.effect.specs.Registers.{word, reg_of}
use Rattle.effect.specs.Pairs.{pair_of, pair_high_of, pair_low_of}
use Rattle.effect.specs.Kept.{wz_of}

-- the address, pc being what PC was in the cycle's T1: none; PC; PC; HL; the pair; WZ and one more; SP and one more, one
-- less, two less; "for ports it is the port times 257"; PC in a halt acknowledge; none in an internal cycle
abbrev pub addresses : ℕ → Kept → Registers → List ℕ
addresses pc k r =
    0
    ∷ pc
    ∷ pc
    ∷ word r.h r.l
    ∷ pair_of (k.opcode / 16) r
    ∷ wz_of k
    ∷ up_of (wz_of k) 1
    ∷ r.sp
    ∷ up_of r.sp 1
    ∷ down_of r.sp 1
    ∷ down_of r.sp 2
    ∷ 257 * k.b1
    ∷ pc
    ∷ []

unfoldable pub address_of : ℕ → ℕ → Kept → Registers → ℕ
address_of code pc k r = slice_index (addresses pc k r) (code / 16)

-- the byte that goes out: none; A; H; L; the register; the byte read, one more, one less; PC's bytes; the pair's bytes; L
unfoldable pub given_of : ℕ → Kept → Registers → ℕ
given_of code k r =
    slice_index_or
    (0
    ∷ r.a
    ∷ r.h
    ∷ r.l
    ∷ reg_of k.opcode r
    ∷ k.b1
    ∷ (k.b1 + 1) % 256
    ∷ (k.b1 + 255) % 256
    ∷ r.pc / 256
    ∷ r.pc % 256
    ∷ pair_high_of (k.opcode / 16) r
    ∷ pair_low_of (k.opcode / 16) r
    ∷ r.l
    ∷ 0
    ∷ 0
    ∷ 0
    ∷ [])
    (code % 16)
    0
