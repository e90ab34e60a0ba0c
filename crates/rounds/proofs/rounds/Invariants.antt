-- `rounds::rounds` meets its contract. The loop keeps the result of all runs (Turn, `Turning`). Assumes nothing.
use Rattle.rounds.proofs.Turn.{Turning}
use Rattle.rounds.proofs.rounds.Given as goal

abbrev pub invariant-loop : goal.invariant-loop
invariant-loop l = Turning l.initial.memory l.inputs l.initial.outputs l.s l.initial.trace l.states l.calls l.initial.machine l.memory l.outputs l.trace l.machine l.counter l.done
