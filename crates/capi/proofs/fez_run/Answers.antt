-- `capi::fez_run` meets its contract: no run does more states than it is asked.
-- Assumes nothing.
use Rattle.std.proofs.Common.{arith}
use Rattle.capi.proofs.Runs.{answer_few}
use Rattle.capi.proofs.fez_run.Goals as goal

pub run_number-requires : goal.run_number-requires
run_number-requires c = answer_few _ _ _ _ _ _ _ _ _ _ _ _ c.run-answer.ensures (omega arith)
