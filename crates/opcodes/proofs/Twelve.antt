-- The undefined opcodes are the twelve that document 01 names. Assumes nothing.
use Prim.Native.Nat.{ℕ, ◌<◌}
use mathlib.Core.Path.{◌≡◌}
use mathlib.Core.Bool.{Bool, false, not, ◌||◌}
use mathlib.Core.List.{List, [], ◌∷◌}
use lib.Dec.{T, eqb}
use Rattle.laws.proofs.Every.{every, below, same, same→eq}
use Rattle.opcodes.specs.Cycles.{defined_of, cycling}

abbrev pub twelve : List ℕ
twelve =
    0x08 ∷ 0x10 ∷ 0x18 ∷ 0x20 ∷ 0x28 ∷ 0x30 ∷ 0x38 ∷ 0xCB ∷ 0xD9 ∷ 0xDD ∷ 0xED ∷ 0xFD ∷ []

abbrev pub among : List ℕ → ℕ → Bool
among [] op = false
among (x ∷ xs) op = eqb op x || among xs op

twelve_right : ℕ → Bool
twelve_right op = same (defined_of op) (not (among twelve op))

all_twelve : T (every twelve_right 256)
unfolding twelve_right cycling
all_twelve = tt

pub undefined_is : (op : ℕ) → op < 256 → defined_of op ≡ not (among twelve op)
unfolding twelve_right
undefined_is op h = same→eq (defined_of op) (not (among twelve op)) (below twelve_right 256 all_twelve op h)
