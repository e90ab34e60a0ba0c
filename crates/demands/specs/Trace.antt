-- Demand 2, last sentence: "The trace shows each state as it was."
use Rattle.std.specs.Prelude.{ℕ, ◌+◌, ◌*◌, ◌<◌, ◌≡◌, List, get_or, Ok}
use Rattle.machine.specs.declared.row.Row.{Row}
use Rattle.machine.specs.Look.{look_of}
use Rattle.machine.specs.Row.{row_of}
use Rattle.run.specs.State.{heard}
use Rattle.run.specs.Run.{World, eventful_of, run_of}
use Rattle.run.specs.Outcome.{verdict_of, left_of}

-- row j of the trace l
abbrev pub row_in : List ℕ → ℕ → Row
row_in l j =
    record {
      state = get_or l (8 * j) 0;
      kind = get_or l (8 * j + 1) 0;
      low = get_or l (8 * j + 2) 0;
      high = get_or l (8 * j + 3) 0;
      byte = get_or l (8 * j + 4) 0;
      status = get_or l (8 * j + 5) 0;
      cycle = get_or l (8 * j + 6) 0;
      levels = get_or l (8 * j + 7) 0;
    }

-- what the next state of the world w shows, after its events: of the machine, and of the byte on the bus
unfoldable pub shown_by : List ℕ → List ℕ → World → Row
shown_by s inputs w =
    row_of (look_of (eventful_of s w.machine)) (heard (eventful_of s w.machine) w.memory inputs)
    (eventful_of s w.machine)

-- after a run that passes the tests, row j of the trace is what state j of it showed, of the states that were done
abbrev pub TraceShows : Type 0
TraceShows =
    (w : World) (inputs s : List ℕ) (n : ℕ) → w.states ≡ 0 → verdict_of w inputs s n ≡ Ok tt
    → (j : ℕ) → j < (left_of w inputs s n).states
    → row_in (left_of w inputs s n).trace j ≡ shown_by s inputs (run_of s inputs j w)
