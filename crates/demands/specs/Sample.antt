-- Document 01's printed sample, 3E 05 76 from a cold start: the fourteen states that `run` traces. Proved in proofs/Sample.
use Rattle.std.specs.Prelude.{ℕ, zero, suc, ◌+◌, ◌*◌, ◌≡◌, List, [], ◌∷◌, ◌++◌, get_or}
use Rattle.effect.specs.Registers.{with_a, with_pc}
use Rattle.machine.specs.declared.record.Position.TheVariants.{Halt}
use Rattle.demands.specs.Cards.{cell, Card, card_leaves, Passes}
use Rattle.demands.specs.Bench.{cold, fetched4, cycle, quiet}

-- a printed line: state code, kind, address and data
pub record Line : Type 0 where
  pub state : ℕ
  pub kind : ℕ
  pub address : ℕ
  pub byte : ℕ

abbrev pub line : ℕ → ℕ → ℕ → ℕ → Line
line s k a b = record { state = s; kind = k; address = a; byte = b }

-- the lines of n rows of the trace l from the place i on
abbrev pub lines_of : List ℕ → ℕ → ℕ → List Line
lines_of l zero i = []
lines_of l (suc n) i =
    line (get_or l i 0) (get_or l (i + 1) 0) (get_or l (i + 2) 0 + 256 * get_or l (i + 3) 0) (get_or l (i + 4) 0) ∷ lines_of l n (i + 8)

-- the program as a card: "A 05 PC 0003 STATES 14"
unfoldable pub sample : Card
sample =
    quiet cold (cell 0 0x3E ∷ cell 1 0x05 ∷ cell 2 0x76 ∷ []) (with_a 0x05 (with_pc 0x0003 cold))
    (fetched4 ++ cycle 2 ++ fetched4 ++ cycle 9)

-- what document 01 prints
abbrev pub printed : List Line
printed =
    line 1 1 0x0000 0x00
    ∷ line 2 1 0x0000 0x00
    ∷ line 3 1 0x0000 0x3E
    ∷ line 4 1 0x0000 0x00
    ∷ line 1 2 0x0001 0x00
    ∷ line 2 2 0x0001 0x00
    ∷ line 3 2 0x0001 0x05
    ∷ line 1 1 0x0002 0x00
    ∷ line 2 1 0x0002 0x00
    ∷ line 3 1 0x0002 0x76
    ∷ line 4 1 0x0000 0x00
    ∷ line 1 9 0x0003 0x00
    ∷ line 2 9 0x0003 0x00
    ∷ line 3 9 0x0003 0x00
    ∷ []

-- the card passes, the rows of its trace are those lines, and a halt state comes next
pub record Sample : Type 0 where
  pub card : Passes sample
  pub lines : lines_of (card_leaves sample).trace 14 0 ≡ printed
  pub halts : (card_leaves sample).machine.next ≡ Halt
