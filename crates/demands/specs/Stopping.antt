-- What a run does that meets an undefined opcode: "With 10 it is the states up to and including the fetch's T3; PC is past the
-- opcode, the machine is stopped". Source: document 01, "Numbers returned". Proved in proofs/Stopping.
use Rattle.std.specs.Prelude.{ℕ, ◌+◌, ◌≡◌, false, List}
use Rattle.alu.specs.Words.{up_of}
use Rattle.opcodes.specs.Cycles.{defined_of}
use Rattle.opcodes.specs.declared.cycle.Acknowledge.TheVariants.{None}
use Rattle.effect.specs.Registers.{with_pc}
use Rattle.effect.specs.Kept.{kept_for}
use Rattle.machine.specs.declared.record.Position.TheVariants.{Fetch, Stop}
use Rattle.run.specs.declared.answer.Ran.{Ran}
use Rattle.run.specs.declared.answer.Answer.TheVariants.{Done, Stopped}
use Rattle.run.specs.Outcome.{answer_of}
use Rattle.demands.specs.Outside.{Outside, outside_of, down}
use Rattle.demands.specs.Rows.{Unbroken}
use Rattle.demands.specs.Board.{Board}
use Rattle.demands.specs.Begins.{Beginning}
use Rattle.demands.specs.Legs.{Tally, states_in, opcode_at, Trip}
use Rattle.demands.specs.Calls.{world_on, given_back}

-- calls from a board to another, each answered with 0 but the last, which is answered with 10, and their states in all
pub data Stopping (s inputs : List ℕ) : Board → ℕ → Board → Type 0 where
  last : {b : Board} (l : List ℕ) (n : ℕ) (r : Ran) → answer_of (world_on b l) inputs s n ≡ Stopped r
      → Stopping s inputs b r.states (given_back (world_on b l) inputs s n r)
  more : {b b' : Board} {k : ℕ} (l : List ℕ) (n : ℕ) (r : Ran) → answer_of (world_on b l) inputs s n ≡ Done r
      → Stopping s inputs (given_back (world_on b l) inputs s n r) k b' → Stopping s inputs b (r.states + k) b'

-- n states from the board b to the board b': legs to a board whose opcode is not defined, and then three states of its fetch, with
-- the waits in it; PC is past the opcode, memory and ports are as they were
pub record StopsAt (E : Outside) (b : Board) (n : ℕ) (b' : Board) : Type 0 where
  pub tallied : Tally
  pub at : Board
  pub trip : Trip E b tallied at
  pub next : at.machine.next ≡ Fetch
  pub kept : at.machine.kept ≡ kept_for None 0
  pub undefined : defined_of (opcode_at at) ≡ false
  pub waits : ℕ
  pub row : Unbroken (down E) (at.machine.clock + 1) waits
  pub states : n ≡ states_in tallied + 3 + waits
  pub stopped : b'.machine.next ≡ Stop
  pub regs : b'.machine.regs ≡ with_pc (up_of at.machine.regs.pc 1) at.machine.regs
  pub memory : b'.memory ≡ at.memory
  pub outputs : b'.outputs ≡ at.outputs

abbrev pub StopForced : Type 0
StopForced =
    (s inputs : List ℕ) (b b' : Board) (n : ℕ) → Stopping s inputs b n b' → Beginning b.machine
    → StopsAt (outside_of s inputs b.machine) b n b'
