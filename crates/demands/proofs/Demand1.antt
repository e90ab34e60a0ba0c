-- Demand 1, proved. Assumes nothing.
use Rattle.demands.specs.Demand1.{Demand1}
use Rattle.demands.proofs.Refusals.{run_refuses}
use Rattle.demands.proofs.Saving.{saves_or_refuses}

pub demand1 : Demand1
demand1 = record { runs = run_refuses; saves = saves_or_refuses }
