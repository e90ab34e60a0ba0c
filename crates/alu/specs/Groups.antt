-- Intel's two groups of eight operations, by a digit of the opcode. Source: the 8080 manual's instruction codes.
-- Cited by `alu::groups`.
use Rattle.std.specs.Prelude.{ℕ, Bool, false, [], ◌∷◌, slice_index_or}
use Rattle.alu.specs.declared.flags.Flags.{Flags}
use Rattle.alu.specs.declared.flags.Flagged.{Flagged}
use Rattle.alu.specs.Sums.{add_of, sub_of, cmp_of, daa_of}
use Rattle.alu.specs.Logic.{ana_of, xra_of, ora_of}
use Rattle.alu.specs.Accumulator.{rlc_of, rrc_of, ral_of, rar_of, cma_of, stc_of, cmc_of}

-- ADD ADC SUB SBB ANA XRA ORA CMP, of a and b, with the carry cy from before
unfoldable pub arithmetic_of : ℕ → ℕ → ℕ → Bool → Flagged
arithmetic_of y a b cy =
    slice_index_or
    (add_of a b false ∷ add_of a b cy ∷ sub_of a b false ∷ sub_of a b cy ∷ ana_of a b ∷ xra_of a b ∷ ora_of a b ∷ [])
    y
    (cmp_of a b)

-- RLC RRC RAL RAR DAA CMA STC CMC, of a, with the flags f from before
unfoldable pub accumulator_of : ℕ → ℕ → Flags → Flagged
accumulator_of y a f =
    slice_index_or
    (rlc_of a f ∷ rrc_of a f ∷ ral_of a f ∷ rar_of a f ∷ daa_of a f.ac f.cy ∷ cma_of a f ∷ stc_of a f ∷ [])
    y
    (cmc_of a f)
