-- What a run is made of: instructions, acknowledged restarts and halt states, one after the other, each with its states and
-- with the waits and holds that the levels force. Nothing here looks at single states. Source: document 01, "Cycles" and
-- "Waits, holds, interrupts, halt". Cited by the statements of demands 2 and 3.
use Rattle.std.specs.Prelude.{ℕ, ◌+◌, ◌*◌, ◌%◌, ◌<◌, ◌≡◌, true, false, List, get_or}
use Rattle.opcodes.specs.Cycles.{defined_of}
use Rattle.opcodes.specs.Kinds.{is_none}
use Rattle.opcodes.specs.declared.cycle.Acknowledge.{Acknowledge}
use Rattle.opcodes.specs.declared.cycle.Acknowledge.TheVariants.{None}
use Rattle.effect.specs.declared.kept.Kept.{Kept}
use Rattle.effect.specs.Kept.{kept_for}
use Rattle.machine.specs.declared.record.Position.TheVariants.{Fetch, Halt}
use Rattle.machine.specs.Ending.{ended_of}
use Rattle.demands.specs.Outside.{Outside, Moment, did_times, up}
use Rattle.demands.specs.Manual.{Result, manual, restart}
use Rattle.demands.specs.States.{manual_states, restart_states}
use Rattle.demands.specs.Rows.{Unbroken, Forced}
use Rattle.demands.specs.Board.{Board, moment_of}
use Rattle.demands.specs.Course.{course_of}

-- states: those that the manual gives to instructions and restarts, waits, holds, and halt states
pub record Tally : Type 0 where
  pub manual : ℕ
  pub waits : ℕ
  pub holds : ℕ
  pub halts : ℕ

abbrev pub tally : ℕ → ℕ → ℕ → ℕ → Tally
tally m w h z = record { manual = m; waits = w; holds = h; halts = z }

abbrev pub plus : Tally → Tally → Tally
plus p q = tally (p.manual + q.manual) (p.waits + q.waits) (p.holds + q.holds) (p.halts + q.halts)

-- all of them
abbrev pub states_in : Tally → ℕ
states_in q = q.manual + q.waits + q.holds + q.halts

-- what comes after an instruction with this opcode that leaves a, in the moment t after its last state: "INT counts in the
-- state just before a new fetch or halt state would begin, after that state's own changes"
abbrev pub kept_only : ℕ → Kept
kept_only op = record { opcode = op; ack = None; rst = 0; b1 = 0; b2 = 0; b3 = 0; b4 = 0 }

abbrev pub afterwards : ℕ → Result → Moment → Board
afterwards op a t =
    record {
      machine =
          ended_of (record { regs = a.regs; kept = kept_only op; lines = t.lines; clock = t.clock; next = Fetch });
      memory = a.memory;
      outputs = a.outputs;
    }

-- the opcode at PC, and what the manual says of it: what it leaves, and its states
abbrev pub opcode_at : Board → ℕ
opcode_at b = get_or b.memory (b.machine.regs.pc % 65536) 0

abbrev pub manual_at : Outside → Board → Result
manual_at E b = manual b.machine.regs b.memory E.inputs b.outputs (opcode_at b)

abbrev pub states_at : Board → ℕ
states_at b = manual_states (opcode_at b) b.machine.regs

-- the byte of restart n, which answers an acknowledge, and what the manual says of it
abbrev pub restart_byte : ℕ → ℕ
restart_byte n = 0xC7 + 8 * n

abbrev pub restart_at : Outside → Board → ℕ → Result
restart_at E b n = restart b.machine.regs b.memory E.inputs b.outputs n

-- the cycles of the opcode op, begun on the board b
abbrev pub course_at : Board → ℕ → List ℕ
course_at b op = course_of op b.machine.regs.f

-- from the board b, with these states, to another: the instruction at PC; an acknowledged restart, INTE being cleared when it
-- was taken; a halt state. "HOLD counts in .. a halt state. The holds that follow equal the number of states in an unbroken
-- row, from that one on, with HOLD up"
pub data Leg (E : Outside) (b : Board) : Tally → Board → Type 0 where
  instruction : (w h : ℕ) → b.machine.next ≡ Fetch → b.machine.kept ≡ kept_for None 0 → defined_of (opcode_at b) ≡ true
      → Forced E (course_at b (opcode_at b)) b.machine.clock w h
      → Leg E b (tally (states_at b) w h 0) (afterwards (opcode_at b) (manual_at E b) (did_times E (states_at b + w + h) (moment_of b)))
  acknowledge : (ack : Acknowledge) (n w h : ℕ) → is_none ack ≡ false → n < 8 → b.machine.regs.inte ≡ false
      → b.machine.next ≡ Fetch → b.machine.kept ≡ kept_for ack n
      → Forced E (course_at b (restart_byte n)) b.machine.clock w h
      → Leg E b (tally restart_states w h 0)
      (afterwards (restart_byte n) (restart_at E b n) (did_times E (restart_states + w + h) (moment_of b)))
  halt : (h : ℕ) → b.machine.next ≡ Halt → Unbroken (up E) b.machine.clock h
      → Leg E b (tally 0 0 h 1)
      (afterwards 0x76 (record { regs = b.machine.regs; memory = b.memory; outputs = b.outputs })
      (did_times E (1 + h) (moment_of b)))

-- any number of legs, one after the other
pub data Trip (E : Outside) : Board → Tally → Board → Type 0 where
  stay : {b : Board} → Trip E b (tally 0 0 0 0) b
  go : {b b' b'' : Board} {p q : Tally} → Leg E b p b' → Trip E b' q b'' → Trip E b (plus p q) b''
