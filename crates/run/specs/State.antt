-- One state over memory, ports and trace as lists. Source: document 01, "The machine", "Cycles" and "Trace".
-- Cited by `run::bus`, `run::state` and by a run of many.
use Rattle.std.specs.Prelude.{ℕ, ◌+◌, ◌≡◌, List, get_or, set}
use Rattle.machine.specs.declared.record.Machine.{Machine}
use Rattle.machine.specs.declared.row.Row.{Row}
use Rattle.machine.specs.declared.request.Request.{Request}
use Rattle.machine.specs.declared.request.Request.TheVariants.{Nothing, Read, Write, Input, Output, Restart}
use Rattle.machine.specs.Step.{step_of}
use Rattle.machine.specs.Look.{look_of}
use Rattle.machine.specs.Request.{request_of}
use Rattle.machine.specs.Row.{row_of}

-- the byte on the bus: "IN reads the input port"; what goes out is on the bus too
unfoldable pub byte_on : Request → List ℕ → List ℕ → ℕ
byte_on Nothing memory inputs = 0
byte_on (Read a) memory inputs = get_or memory a 0
byte_on (Write a b) memory inputs = b
byte_on (Input p) memory inputs = get_or inputs p 0
byte_on (Output p b) memory inputs = b
byte_on (Restart b) memory inputs = b

-- memory after a request, and the output ports: "OUT sets the output port"
unfoldable pub memory_after : Request → List ℕ → List ℕ
memory_after Nothing memory = memory
memory_after (Read a) memory = memory
memory_after (Write a b) memory = set memory a b
memory_after (Input p) memory = memory
memory_after (Output p b) memory = memory
memory_after (Restart b) memory = memory

unfoldable pub outputs_after : Request → List ℕ → List ℕ
outputs_after Nothing outputs = outputs
outputs_after (Read a) outputs = outputs
outputs_after (Write a b) outputs = outputs
outputs_after (Input p) outputs = outputs
outputs_after (Output p b) outputs = set outputs p b
outputs_after (Restart b) outputs = outputs

-- the trace l with the row r from the place at on
unfoldable pub put_row : List ℕ → ℕ → Row → List ℕ
put_row l at r =
    set
    (set
    (set
    (set
    (set
    (set (set (set l at r.state) (at + 1) r.kind) (at + 2) r.low)
    (at + 3)
    r.high)
    (at + 4)
    r.byte)
    (at + 5)
    r.status)
    (at + 6)
    r.cycle)
    (at + 7)
    r.levels

-- what the state of the machine m asks, and the byte on the bus in it
abbrev pub asked : Machine → Request
asked m = request_of (look_of m) m

abbrev pub heard : Machine → List ℕ → List ℕ → ℕ
heard m memory inputs = byte_on (asked m) memory inputs

-- what the state of m leaves of memory x, output ports o and the trace l, where i are the input ports: the machine n, and x', o'
-- and l'
pub record After (m : Machine) (x i o l : List ℕ) (at : ℕ) (n : Machine) (x' o' l' : List ℕ) : Type 0 where
  pub machine : n ≡ step_of (heard m x i) m
  pub memory : x' ≡ memory_after (asked m) x
  pub outputs : o' ≡ outputs_after (asked m) o
  pub trace : l' ≡ put_row l at (row_of (look_of m) (heard m x i) m)
