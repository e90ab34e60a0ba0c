-- The totals that document 01 lists ("Cycles", second point), and the shape of an instruction that the theorems rest on.
-- Cited by proofs/Totals and by the crate of theorems.
use Rattle.std.specs.Prelude.{ℕ, ◌+◌, Bool, true, false, not, ◌&&◌, ◌||◌, List, [], ◌∷◌, eqb, leb}
use Rattle.laws.specs.Choice.{pick}
use Rattle.opcodes.specs.Instructions.{Instruction}
use Rattle.opcodes.specs.Instructions.{nop, hlt, xchg, xthl, pchl, sphl, di, ei, jmp, call, ret, rcc, jcc, ccc}
use Rattle.opcodes.specs.Instructions.{shld, lhld, sta, lda, inr_m, dcr_m, mvi_m, out, inp, undefined}
use Rattle.opcodes.specs.Instructions.{lxi, dad, stax, ldax, inx, dcx, push, pop, inr_r, dcr_r, mvi_r, mov_rm, mov_mr}
use Rattle.opcodes.specs.Instructions.{mov_rr, alu_r, alu_m, alu_i, acc, rst}
use Rattle.opcodes.specs.Kinds.{states_of, is_fetch}

-- the states of a list of cycles
abbrev pub total_of : List ℕ → ℕ
total_of [] = 0
total_of (code ∷ rest) = states_of code + total_of rest

-- the states of an instruction as document 01 lists them; t says whether its condition is met
unfoldable pub listed_total : Instruction → Bool → ℕ
listed_total (mov_rr d s) t = 5
listed_total (inr_r r) t = 5
listed_total (dcr_r r) t = 5
listed_total (inx p) t = 5
listed_total (dcx p) t = 5
listed_total pchl t = 5
listed_total sphl t = 5
listed_total (alu_r o s) t = 4
listed_total (acc o) t = 4
listed_total xchg t = 4
listed_total ei t = 4
listed_total di t = 4
listed_total nop t = 4
listed_total (alu_i o) t = 7
listed_total (alu_m o) t = 7
listed_total (mov_rm r) t = 7
listed_total (mov_mr r) t = 7
listed_total (mvi_r r) t = 7
listed_total (ldax p) t = 7
listed_total (stax p) t = 7
listed_total inr_m t = 10
listed_total dcr_m t = 10
listed_total mvi_m t = 10
listed_total (lxi p) t = 10
listed_total (pop p) t = 10
listed_total ret t = 10
listed_total inp t = 10
listed_total out t = 10
listed_total (dad p) t = 10
listed_total jmp t = 10
listed_total jcc t = 10
listed_total sta t = 13
listed_total lda t = 13
listed_total shld t = 16
listed_total lhld t = 16
listed_total (push p) t = 11
listed_total (rst n) t = 11
listed_total call t = 17
listed_total ccc t = pick t 17 11
listed_total rcc t = pick t 11 5
listed_total hlt t = 7
listed_total xthl t = 18
listed_total undefined t = 0

-- later cycles: none is a fetch, each has 3 or 5 states
abbrev pub later_shape : List ℕ → Bool
later_shape [] = true
later_shape (code ∷ rest) = not (is_fetch code) && (eqb (states_of code) 3 || eqb (states_of code) 5) && later_shape rest

-- a whole instruction: a fetch of 4 or 5 states, later cycles, at most 18 states in all
abbrev pub shape : List ℕ → Bool
shape [] = false
shape (code ∷ rest) =
    is_fetch code
    && (eqb (states_of code) 4 || eqb (states_of code) 5)
    && later_shape rest
    && leb (total_of (code ∷ rest)) 18
