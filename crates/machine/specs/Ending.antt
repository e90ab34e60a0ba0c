-- How a cycle and an instruction end: holds, interrupts, halting. Source: document 01, "Waits, holds, interrupts, halt".
-- Cited by `machine::ending`. In all of these c is the cycle, and n the number of the cycle after it, 0 after the last.
use Rattle.std.specs.Prelude.{ℕ, Bool, false, not, ◌&&◌, ◌==◌, nat_lt}
use Rattle.laws.specs.Choice.{pick}
use Rattle.opcodes.specs.declared.cycle.Acknowledge.{Acknowledge}
use Rattle.opcodes.specs.declared.cycle.Acknowledge.TheVariants.{None, Running, Halted}
use Rattle.effect.specs.Registers.{with_inte}
use Rattle.effect.specs.Kept.{kept_for}
use Rattle.effect.specs.Effect.{effect_of}
use Rattle.machine.specs.declared.record.Position.{Position}
use Rattle.machine.specs.declared.record.Position.TheVariants.{Fetch, Later, Hold, Halt}
use Rattle.machine.specs.declared.record.Machine.{Machine}
use Rattle.machine.specs.Record.{with_next, with_regs}

-- "taken if INT is up, INTE is on and the instruction that ended isn't EI"
unfoldable pub takes_of : Machine → Bool
takes_of m = nat_lt m.lines.int 8 && m.regs.inte && not (m.kept.opcode == 0xFB)

-- "Taking it keeps the number, lowers INT and clears INTE"; the acknowledge's T1 is next
unfoldable pub acknowledge_of : Acknowledge → Machine → Machine
acknowledge_of ack m =
    record {
      regs = with_inte false m.regs;
      kept = kept_for ack m.lines.int;
      lines = record { ready = m.lines.ready; hold = m.lines.hold; int = 8 };
      clock = m.clock;
      next = Fetch;
    }

-- nothing is kept any more, and p is next
unfoldable pub clear_of : Position → Machine → Machine
clear_of p m = record { regs = m.regs; kept = kept_for None 0; lines = m.lines; clock = m.clock; next = p }

-- the instruction that ends is HLT, so that a halt state would begin
abbrev pub is_hlt : Machine → Bool
is_hlt m = m.kept.opcode == 0x76

-- the instruction is over: a fetch or a halt state, or an acknowledge; "kind 10 exactly if a halt state would otherwise have
-- begun, else kind 8"
unfoldable pub ended_of : Machine → Machine
ended_of m =
    pick (takes_of m) (acknowledge_of (pick (is_hlt m) Halted Running) m) (clear_of (pick (is_hlt m) Halt Fetch) m)

-- the cycle and its holds are over
unfoldable pub follow_of : ℕ → Machine → Machine
follow_of n m = pick (n == 0) (ended_of m) (with_next (Later n 1) m)

-- "HOLD counts in the last state of any cycle and in a halt state", and in a hold
abbrev pub holds : Machine → Bool
holds m = m.lines.hold == 1

-- all changes of the cycle are made: a hold, or what follows
unfoldable pub hold_of : ℕ → ℕ → Machine → Machine
hold_of c n m = pick (holds m) (with_next (Hold c) m) (follow_of n m)

-- the last state of the cycle: "All other registers, flags, INTE and halting change in the instruction's last state"
unfoldable pub end_of : ℕ → ℕ → Machine → Machine
end_of c n m = hold_of c n (with_regs (pick (n == 0) (effect_of m.kept m.regs) m.regs) m)
