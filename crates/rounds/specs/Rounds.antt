-- Many runs, one after the other, over the same memory, ports, schedule and trace. Cited by `rounds::rounds`.
use Rattle.std.specs.Prelude.{◌≡◌, ℕ, zero, suc, ◌+◌, ◌%◌, List}
use Rattle.machine.specs.Record.{cold_of}
use Rattle.run.specs.Run.{World}
use Rattle.run.specs.Outcome.{start_of, left_of}

-- one run of n states more from the world w, whose states are those of all runs before, modulo 2^64
unfoldable pub round_of : List ℕ → List ℕ → ℕ → World → World
round_of s inputs n w =
    let left = left_of (start_of w.machine w.memory w.outputs w.trace) inputs s n in
    record {
      machine = left.machine;
      memory = left.memory;
      outputs = left.outputs;
      trace = left.trace;
      states = (w.states + left.states) % 18446744073709551616;
    }

-- so many runs of n states
unfoldable pub rounds_of : List ℕ → List ℕ → ℕ → ℕ → World → World
rounds_of s inputs n zero w = w
rounds_of s inputs n (suc calls) w = rounds_of s inputs n calls (round_of s inputs n w)

-- calls runs of n states from a cold machine, over memory x, input ports i, output ports o, the schedule s and the trace l:
-- r states in all, and x', o' and l' afterwards
pub record Rounded (calls n : ℕ) (x i o s l : List ℕ) (r : ℕ) (x' o' l' : List ℕ) : Type 0 where
  pub states : r ≡ (rounds_of s i n calls (start_of cold_of x o l)).states
  pub memory : x' ≡ (rounds_of s i n calls (start_of cold_of x o l)).memory
  pub outputs : o' ≡ (rounds_of s i n calls (start_of cold_of x o l)).outputs
  pub trace : l' ≡ (rounds_of s i n calls (start_of cold_of x o l)).trace
