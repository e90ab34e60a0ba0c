-- The machine with its memory and output ports, between two states. Cited by the legs of a run.
use Rattle.std.specs.Prelude.{ℕ, List}
use Rattle.machine.specs.declared.record.Machine.{Machine}
use Rattle.run.specs.Run.{World}
use Rattle.demands.specs.Outside.{Moment}

pub record Board : Type 0 where
  pub machine : Machine
  pub memory : List ℕ
  pub outputs : List ℕ

-- the board of a run's world
abbrev pub board_of : World → Board
board_of w = record { machine = w.machine; memory = w.memory; outputs = w.outputs }

-- its levels and its clock
abbrev pub moment_of : Board → Moment
moment_of b = record { lines = b.machine.lines; clock = b.machine.clock }
