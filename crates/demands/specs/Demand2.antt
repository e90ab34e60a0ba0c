-- Demand 2: "Every state does what the paper's cycle rules say, and at each instruction's end registers, flags, memory and
-- ports are those of Intel's 8080 manuals, for all 244 defined opcodes, wrapped addresses included." The first part is the
-- contract of `run`: each state is that of `state_of` (run, specs/Run). These are the second.
use Rattle.std.specs.Prelude.{ℕ, ◌+◌, ◌≤◌, ◌≡◌, true, false, List, [], ◌⊎◌}
use Rattle.opcodes.specs.Cycles.{defined_of}
use Rattle.opcodes.specs.declared.cycle.Acknowledge.TheVariants.{None}
use Rattle.effect.specs.Registers.{with_inte}
use Rattle.effect.specs.Kept.{kept_for}
use Rattle.machine.specs.declared.record.Position.TheVariants.{Fetch}
use Rattle.run.specs.Run.{run_of}
use Rattle.demands.specs.Manual.{Result, manual}
use Rattle.demands.specs.Outside.{outside_of}
use Rattle.demands.specs.Board.{Board, board_of}
use Rattle.demands.specs.Begins.{begins, Beginning, Acknowledges}
use Rattle.demands.specs.Rows.{Forced}
use Rattle.demands.specs.Legs.{Tally, states_in, opcode_at, states_at, course_at, Trip}
use Rattle.demands.specs.Calls.{world_on, Reached}
use Rattle.demands.specs.Costs.{Costs}

-- in a run that begins between instructions, wherever the next instruction, acknowledge or halt state begins, after k states, the
-- board is what the instructions, restarts and halt states before it make of the first, one after the other
abbrev pub InstructionsDone : Type 0
InstructionsDone =
    (s inputs : List ℕ) (b b' : Board) (k : ℕ) → Reached s inputs b k b' → Beginning b.machine
    → begins b'.machine.next ≡ true → Costs (outside_of s inputs b.machine) b k b'

-- and whatever the schedule, the instructions, restarts and halt states that it forces are done, in the states that it forces
abbrev pub ForcedDone : Type 0
ForcedDone =
    (s inputs : List ℕ) (b b' : Board) (q : Tally) → Trip (outside_of s inputs b.machine) b q b'
    → b.machine.clock + states_in q ≤ 4294967295 → board_of (run_of s inputs (states_in q) (world_on b [])) ≡ b'

-- one of them by itself, in plain words: an instruction that begins on the board b, whose opcode is defined, with w waits and h holds
-- forced on its cycles. After its states and those, memory and output ports are what the manual says, and so are the registers,
-- flags and INTE; but where an interrupt is taken in the last state, INTE is cleared and the acknowledge cycle is next
pub record Executed (a : Result) (b : Board) : Type 0 where
  pub memory : b.memory ≡ a.memory
  pub outputs : b.outputs ≡ a.outputs
  pub regs : (b.machine.regs ≡ a.regs) ⊎ ((b.machine.regs ≡ with_inte false a.regs) × Acknowledges b.machine)

abbrev pub InstructionEnds : Type 0
InstructionEnds =
    (s inputs : List ℕ) (b : Board) (w h : ℕ) → b.machine.next ≡ Fetch → b.machine.kept ≡ kept_for None 0
    → defined_of (opcode_at b) ≡ true
    → Forced (outside_of s inputs b.machine) (course_at b (opcode_at b)) b.machine.clock w h
    → b.machine.clock + (states_at b + w + h) ≤ 4294967295
    → Executed (manual b.machine.regs b.memory inputs b.outputs (opcode_at b))
    (board_of (run_of s inputs (states_at b + w + h) (world_on b [])))
