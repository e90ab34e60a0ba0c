-- Demand 1: "It takes every input. Each public entry checks what it is given. A refusal gives its number from the paper, counts
-- zero states, returns the machine as it came and changes no byte of memory, ports or trace." No public entry has a premise; what
-- their contracts say of refusals is this. Proved in proofs/Demand1.
use Rattle.demands.specs.Refusals.{Refuses}
use Rattle.demands.specs.Saving.{SavesOrRefuses}

-- of `run`, and of `save` and `load`
pub record Demand1 : Type 0 where
  pub runs : Refuses
  pub saves : SavesOrRefuses
