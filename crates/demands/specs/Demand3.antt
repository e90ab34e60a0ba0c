-- Demand 3, first sentence: "Take any run that begins and ends between instructions, made in one call or several with one
-- schedule and one set of input ports and nothing altered between calls, and meets no undefined opcode. Its states number
-- exactly the manual's states for the instructions and acknowledged restarts it did, plus the waits, holds and halts that the
-- starting levels and the schedule force by the paper's rules."
use Rattle.std.specs.Prelude.{ℕ, List}
use Rattle.demands.specs.Outside.{outside_of}
use Rattle.demands.specs.Board.{Board}
use Rattle.demands.specs.Begins.{Beginning}
use Rattle.demands.specs.Costs.{Costs}
use Rattle.demands.specs.Calls.{Calls}

-- n is the number of states that the calls answered
abbrev pub StatesForced : Type 0
StatesForced =
    (s inputs : List ℕ) (b b' : Board) (n : ℕ) → Calls s inputs b n b' → Beginning b.machine → Beginning b'.machine
    → Costs (outside_of s inputs b.machine) b n b'
