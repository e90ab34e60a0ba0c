-- The cold machine, what comes next, the clock, and the record with a part of it changed. Source: document 01, "The machine".
-- Cited by `machine::record` and everything above.
use Rattle.std.specs.Prelude.{ℕ, ◌+◌, ◌%◌, Bool, false, ◌==◌}
use Rattle.laws.specs.Choice.{pick}
use Rattle.opcodes.specs.declared.cycle.Acknowledge.TheVariants.{None}
use Rattle.effect.specs.declared.registers.Registers.{Registers}
use Rattle.effect.specs.declared.kept.Kept.{Kept}
use Rattle.effect.specs.Kept.{kept_for}
use Rattle.machine.specs.declared.record.Lines.{Lines}
use Rattle.machine.specs.declared.record.Position.{Position}
use Rattle.machine.specs.declared.record.Position.TheVariants.{Fetch, Later, Wait, Hold, Halt, Stop}
use Rattle.machine.specs.declared.record.Machine.{Machine}

-- "A cold machine: all registers 0, flag byte hex 02, SP, PC and clock 0, INTE off, READY up, HOLD and INT down, next a fetch"
unfoldable pub cold_of : Machine
cold_of =
    record {
      regs = record { a = 0; f = 2; b = 0; c = 0; d = 0; e = 0; h = 0; l = 0; sp = 0; pc = 0; inte = false };
      kept = kept_for None 0;
      lines = record { ready = 1; hold = 0; int = 8 };
      clock = 0;
      next = Fetch;
    }

-- the machine m with another position, other registers, other kept bytes, other levels, another clock
unfoldable pub with_next : Position → Machine → Machine
with_next n m = record { regs = m.regs; kept = m.kept; lines = m.lines; clock = m.clock; next = n }

unfoldable pub with_regs : Registers → Machine → Machine
with_regs r m = record { regs = r; kept = m.kept; lines = m.lines; clock = m.clock; next = m.next }

unfoldable pub with_kept : Kept → Machine → Machine
with_kept k m = record { regs = m.regs; kept = k; lines = m.lines; clock = m.clock; next = m.next }

unfoldable pub with_lines : Lines → Machine → Machine
with_lines l m = record { regs = m.regs; kept = m.kept; lines = l; clock = m.clock; next = m.next }

unfoldable pub with_clock : ℕ → Machine → Machine
with_clock t m = record { regs = m.regs; kept = m.kept; lines = m.lines; clock = t; next = m.next }

-- what comes next as a number: "mode (0 fetch next, 1 halted, 2 stopped)", and 3 a later state of a cycle, 4 a wait, 5 a hold
abbrev pub next_number : Position → ℕ
next_number Fetch = 0
next_number (Later c s) = 3
next_number (Wait c) = 4
next_number (Hold c) = 5
next_number Halt = 1
next_number Stop = 2

-- nothing comes next
unfoldable pub stopped_of : Position → Bool
stopped_of p = next_number p == 2

-- the clock after one more state: it counts modulo 4,294,967,296, and a stopped machine does no state
unfoldable pub ticked_of : Position → ℕ → ℕ
ticked_of p t = pick (stopped_of p) t ((t + 1) % 4294967296)
