-- `rounds::rounds` meets its contract. The loop keeps the result of all runs (Turn, `Turning`). Assumes nothing.
use Rattle.std.proofs.Common.{refl, ◌∙◌, arith}
use Rattle.std.proofs.Math.Nat.{sub-zero}
use Rattle.rounds.proofs.Turn.{turn, ending}
use Rattle.rounds.proofs.rounds.Goals as goal

pub loop-init : goal.loop-init
loop-init c = record { memory = refl; outputs = refl; trace = refl; runs = simp sub-zero }

-- a turn
pub loop-preserved : goal.loop-preserved
loop-preserved c =
    let inv = c.loop.invariant in
    record {
      memory = c.run.auto.memory ∙ inv.memory;
      outputs = c.run.auto.outputs ∙ inv.outputs;
      trace = c.run.auto.trace ∙ inv.trace;
      runs =
          turn _ _ _ _ _ _ _ _ _ _ _ _ _ _ _ _ c.loop-test.true c.run.ensures c.ran-after.ensures
          refl
          ∙ inv.runs;
    }

-- the end
pub returns : goal.returns
returns c = ending _ _ _ _ _ _ _ _ _ _ _ _ _ _ (omega (arith, c.loop-test.false)) c.cold-machine.ensures c.loop.invariant
