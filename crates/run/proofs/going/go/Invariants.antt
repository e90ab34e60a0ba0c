-- `run::going::go` meets its contract. The loop keeps the run's result (Turn, `Going`).
-- Assumes nothing.
use Rattle.run.proofs.Turn.{Going}
use Rattle.run.proofs.going.go.Given as goal

abbrev pub invariant-loop-states : goal.invariant-loop-states
invariant-loop-states l = Going l.initial.memory l.inputs l.initial.outputs l.s l.initial.trace l.asked.states l.initial.machine l.memory l.outputs l.trace l.machine l.states l.from
