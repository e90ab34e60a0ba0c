-- Demand 3, second sentence: "Further, if INT rises with interrupts enabled, the instruction under way is neither EI nor DI,
-- and the schedule never lowers INT before it is taken, then at most 18 states other than waits and holds pass, the one in which
-- it rises included, before the acknowledge cycle begins."
use Rattle.std.specs.Prelude.{ℕ, zero, suc, ◌+◌, ◌≤◌, ◌<◌, ◌≡◌, true, false, List, [], eqb}
use Rattle.laws.specs.Choice.{pick}
use Rattle.opcodes.specs.Kinds.{is_none}
use Rattle.machine.specs.declared.record.Position.{Position}
use Rattle.machine.specs.declared.record.Position.TheVariants.{Fetch, Later, Wait, Hold, Halt, Stop}
use Rattle.run.specs.Run.{World, eventful_of, run_of}
use Rattle.demands.specs.Outside.{int_in}
use Rattle.demands.specs.Board.{Board, board_of}
use Rattle.demands.specs.Own.{own}
use Rattle.demands.specs.Begins.{begins, Beginning, Acknowledges}
use Rattle.demands.specs.Legs.{opcode_at, restart_byte}
use Rattle.demands.specs.Calls.{world_on, Reached}

-- the sum f 0 + .. + f (k - 1)
abbrev pub sum_below : (ℕ → ℕ) → ℕ → ℕ
sum_below f zero = 0
sum_below f (suc k) = f 0 + sum_below (λ j. f (suc j)) k

-- the opcode op is neither EI nor DI
abbrev pub Neither : ℕ → Type 0
Neither op = (eqb op 0xFB ≡ false) × (eqb op 0xF3 ≡ false)

-- the opcode of what begins on the board b: of an instruction, of the restart in an acknowledge, or of HLT in a halt state
abbrev pub opcode_by : Position → Board → ℕ
opcode_by Fetch b = pick (is_none b.machine.kept.ack) (opcode_at b) (restart_byte b.machine.kept.rst)
opcode_by (Later c s) b = 0
opcode_by (Wait c) b = 0
opcode_by (Hold c) b = 0
opcode_by Halt b = 0x76
opcode_by Stop b = 0

abbrev pub under_way : Board → ℕ
under_way b = opcode_by b.machine.next b

-- the world after j states of a run on the board b
abbrev pub world_at : List ℕ → List ℕ → Board → ℕ → World
world_at s inputs b j = run_of s inputs j (world_on b [])

-- of a run on the board b: what begins after a states owns the state a + i, in which INT is up with interrupts enabled, and in
-- the k states from that one on the schedule does not lower it, and no acknowledge begins after the first of them
pub record Rises (s inputs : List ℕ) (b : Board) (a i k : ℕ) : Type 0 where
  pub begun : begins (world_at s inputs b a).machine.next ≡ true
  pub under : Neither (under_way (board_of (world_at s inputs b a)))
  pub owns : (j : ℕ) → 0 < j → j ≤ i → begins (world_at s inputs b (a + j)).machine.next ≡ false
  pub enabled : (world_at s inputs b (a + i)).machine.regs.inte ≡ true
  pub up : (eventful_of s (world_at s inputs b (a + i)).machine).lines.int < 8
  pub kept : (u v : ℕ) → b.machine.clock + (a + i) < u → u < b.machine.clock + (a + i + k) → v < 8 → int_in s u v < 8
  pub untaken : (j : ℕ) → 0 < j → j < k → Acknowledges (world_at s inputs b (a + i + j)).machine → ⊥

-- so at most 18 of those k states are neither waits nor holds
abbrev pub SoonTaken : Type 0
SoonTaken =
    (s inputs : List ℕ) (b b' : Board) (n : ℕ) → Reached s inputs b n b' → Beginning b.machine
    → (a i k : ℕ) → a + i + k ≤ n → Rises s inputs b a i k
    → sum_below (λ j. own (world_at s inputs b (a + i + j)).machine.next) k ≤ 18
