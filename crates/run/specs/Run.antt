-- Many states, one after the other. Source: document 01, "Schedule" and "Numbers returned". Cited by `run::going`.
-- s is the schedule, inputs are the input ports.
use Rattle.std.specs.Prelude.{ℕ, zero, suc, ◌+◌, ◌*◌, ◌/◌, List, length}
use Rattle.laws.specs.Choice.{pick}
use Rattle.machine.specs.declared.record.Machine.{Machine}
use Rattle.machine.specs.Record.{with_lines, stopped_of}
use Rattle.machine.specs.Step.{step_of}
use Rattle.machine.specs.Look.{look_of}
use Rattle.machine.specs.Row.{row_of}
use Rattle.schedule.specs.Levels.{levels_at}
use Rattle.run.specs.State.{asked, heard, memory_after, outputs_after, put_row}

-- the machine, the lent lists, and how many states are done
pub record World : Type 0 where
  pub machine : Machine
  pub memory : List ℕ
  pub outputs : List ℕ
  pub trace : List ℕ
  pub states : ℕ

-- "An event acts at the start of the state whose number equals its own, before anything else"
unfoldable pub eventful_of : List ℕ → Machine → Machine
eventful_of s m = with_lines (levels_at s (length s / 6) m.clock m.lines) m

-- one state of the machine m in the world w, whose events have acted
unfoldable pub state_of : List ℕ → Machine → World → World
state_of inputs m w =
    record {
      machine = step_of (heard m w.memory inputs) m;
      memory = memory_after (asked m) w.memory;
      outputs = outputs_after (asked m) w.outputs;
      trace = put_row w.trace (8 * w.states) (row_of (look_of m) (heard m w.memory inputs) m);
      states = w.states + 1;
    }

-- n states, or fewer where the machine stops
unfoldable pub run_of : List ℕ → List ℕ → ℕ → World → World
run_of s inputs zero w = w
run_of s inputs (suc n) w =
    pick (stopped_of w.machine.next) w (run_of s inputs n (state_of inputs (eventful_of s w.machine) w))
