-- The second computed test over all opcodes: the totals are those that document 01 lists, and the cycles have the shape that
-- the theorems rest on. Assumes nothing.
use Prim.Native.Nat.{ℕ, ◌<◌}
use mathlib.Core.Path.{◌≡◌, subst}
use mathlib.Core.Bool.{Bool, true, false, not, ◌&&◌, ◌||◌}
use lib.Dec.{T, eqb, eqb→eq}
use Rattle.laws.proofs.Every.{every, below, either}
use Rattle.opcodes.specs.Instructions.{decode}
use Rattle.opcodes.specs.Cycles.{cycles, defined_of, cycling}
use Rattle.opcodes.specs.Kinds.{states_of}
use Rattle.opcodes.specs.Totals.{total_of, listed_total, shape}

total_right : ℕ → Bool → Bool
total_right op met = eqb (total_of (cycles (decode op) met)) (listed_total (decode op) met)

totals_right : ℕ → Bool
totals_right op = total_right op true && total_right op false

all_totals : T (every totals_right 256)
unfolding totals_right total_right cycling states_of listed_total
all_totals = tt

-- the states of an opcode's cycles are the total that document 01 lists
pub total_is : (op : ℕ) → op < 256 → (met : Bool) → total_of (cycles (decode op) met) ≡ listed_total (decode op) met
unfolding totals_right total_right
total_is op h met =
    eqb→eq (total_of (cycles (decode op) met)) (listed_total (decode op) met)
    (either (total_right op) (below totals_right 256 all_totals op h) met)

-- an opcode that is defined has the shape
shape_right : ℕ → Bool → Bool
shape_right op met = not (defined_of op) || shape (cycles (decode op) met)

shapes_right : ℕ → Bool
shapes_right op = shape_right op true && shape_right op false

all_shapes : T (every shapes_right 256)
unfolding shapes_right shape_right cycling states_of
all_shapes = tt

pub shape_is : (op : ℕ) → op < 256 → defined_of op ≡ true → (met : Bool) → T (shape (cycles (decode op) met))
unfolding shapes_right shape_right
shape_is op h d met =
    subst (λ (x : Bool). T (not x || shape (cycles (decode op) met))) d
    (either (shape_right op) (below shapes_right 256 all_shapes op h) met)
