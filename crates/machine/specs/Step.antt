-- One state. Source: document 01, "Cycles" and "Waits, holds, interrupts, halt". Cited by `machine::step`.
-- In all of these c is the cycle, y what is known of it, and v the byte on the bus.
use Rattle.std.specs.Prelude.{ℕ, ◌+◌, Bool, true, ◌&&◌, ◌==◌}
use Rattle.laws.specs.Choice.{pick}
use Rattle.alu.specs.Words.{up_of}
use Rattle.opcodes.specs.Cycles.{defined_of}
use Rattle.opcodes.specs.Kinds.{waits_of, reads_of, raises_of}
use Rattle.effect.specs.declared.registers.Registers.{Registers}
use Rattle.effect.specs.declared.kept.Kept.{Kept}
use Rattle.effect.specs.Registers.{with_pc}
use Rattle.effect.specs.Kept.{keep_of}
use Rattle.machine.specs.declared.record.Position.{Position}
use Rattle.machine.specs.declared.record.Position.TheVariants.{Fetch, Later, Wait, Hold, Halt, Stop}
use Rattle.machine.specs.declared.record.Machine.{Machine}
use Rattle.machine.specs.declared.cycle.Cycle.{Cycle}
use Rattle.machine.specs.Record.{with_next, with_regs, with_kept, with_clock, stopped_of, ticked_of}
use Rattle.machine.specs.Cycle.{after_of, cycles_of, cycle_of}
use Rattle.machine.specs.Ending.{takes_of, acknowledge_of, clear_of, ended_of, follow_of, hold_of, end_of}

-- "PC rises in T2 of a fetch and of an operand read, never in an acknowledge"
unfoldable pub risen_of : ℕ → Kept → Registers → Registers
risen_of code k r = with_pc (pick (raises_of code k.ack) (up_of r.pc 1) r.pc) r

-- after T2 or a wait: a wait where READY counts and is down, else T3
unfoldable pub wait_of : Bool → ℕ → Machine → Machine
wait_of counts c m = with_next (pick (counts && m.lines.ready == 0) (Wait c) (Later c 3)) m

-- T2
unfoldable pub second_of : ℕ → ℕ → Machine → Machine
second_of code c m = wait_of (waits_of code) c (with_regs (risen_of code m.kept m.regs) m)

-- T3 of a fetch: the opcode v is kept, or the machine stops where it is not defined
unfoldable pub fetched_of : Bool → ℕ → Machine → Machine
fetched_of defined v m =
    pick defined (with_next (Later 1 4) (with_kept (keep_of 1 v m.kept) m)) (clear_of Stop m)

-- after state s, whose changes are made: the end of the cycle, or its next state
unfoldable pub onward_of : Cycle → ℕ → ℕ → Machine → Machine
onward_of y c s m = pick (y.states == s) (end_of c y.after m) (with_next (Later c (s + 1)) m)

-- T3 of a later cycle: "Bytes are read .. in T3"
unfoldable pub took_of : ℕ → ℕ → ℕ → Machine → Machine
took_of code c v m = with_kept (pick (reads_of code) (keep_of c v m.kept) m.kept) m

-- state s from T3 on, T3 of a fetch apart: T3 keeps its byte, T3 and T4 may be the cycle's last, and T5 is
unfoldable pub from_third : Cycle → ℕ → ℕ → ℕ → Machine → Machine
from_third y c s v m =
    pick (s == 3) (onward_of y c 3 (took_of y.code c v m)) (pick (s == 4) (onward_of y c 4 m) (end_of c y.after m))

-- state s of a cycle, T1 of the first apart
unfoldable pub later_of : Cycle → ℕ → ℕ → Bool → ℕ → Machine → Machine
later_of y c s defined v m =
    pick (s == 1) (with_next (Later c 2) m)
    (pick (s == 2) (second_of y.code c m)
    (pick (s == 3 && c == 1) (fetched_of defined v m) (from_third y c s v m)))

-- a halt state: a hold after it is "recorded as one after HLT's second cycle"
unfoldable pub halted_of : Machine → Machine
halted_of m = hold_of 2 0 (with_kept (keep_of 1 0x76 m.kept) m)

-- the machine after the state at a position, but for the clock
unfoldable pub moved_of : Position → ℕ → Machine → Machine
moved_of Fetch v m = with_next (Later 1 2) m
moved_of (Later c s) v m = later_of (cycle_of m.kept.opcode m.regs.f c) c s (defined_of v) v m
moved_of (Wait c) v m = wait_of true c m
moved_of (Hold c) v m = hold_of c (cycle_of m.kept.opcode m.regs.f c).after m
moved_of Halt v m = halted_of m
moved_of Stop v m = m

-- one state
unfoldable pub step_of : ℕ → Machine → Machine
step_of v m = with_clock (ticked_of m.next m.clock) (moved_of m.next v m)

-- one name that opens the rules of a state
unfoldable pub stepping : ℕ
unfolding with_next with_regs with_kept with_clock stopped_of ticked_of cycle_of cycles_of after_of takes_of acknowledge_of clear_of ended_of follow_of
    hold_of end_of risen_of wait_of second_of fetched_of onward_of took_of from_third later_of halted_of moved_of step_of
stepping = 0
