-- What a state shows of its cycle and of the address bus. Source: document 01, "Trace". Cited by `machine::look`.
use Rattle.std.specs.Prelude.{ℕ, Bool, ◌&&◌, ◌||◌, ◌==◌, nat_le, nat_lt}
use Rattle.laws.specs.Choice.{pick}
use Rattle.alu.specs.Words.{down_of}
use Rattle.opcodes.specs.Codes.{halting}
use Rattle.opcodes.specs.Cycles.{code_of}
use Rattle.opcodes.specs.Kinds.{kind_of, raises_of}
use Rattle.effect.specs.declared.registers.Registers.{Registers}
use Rattle.effect.specs.declared.kept.Kept.{Kept}
use Rattle.effect.specs.Bus.{address_of}
use Rattle.machine.specs.declared.record.Position.{Position}
use Rattle.machine.specs.declared.record.Position.TheVariants.{Fetch, Later, Wait, Hold, Halt, Stop}
use Rattle.machine.specs.declared.record.Machine.{Machine}
use Rattle.machine.specs.declared.look.Place.{Place}
use Rattle.machine.specs.declared.look.Look.{Look}

-- the cycle's number, and the state code: "T1 to T5 as 1 to 5, wait 6, hold 7, halt 8"; "halt states carry .. number 2"
abbrev pub place : ℕ → ℕ → Place
place c s = record { cycle = c; state = s }

unfoldable pub place_of : Position → Place
place_of Fetch = place 1 1
place_of (Later c s) = place c s
place_of (Wait c) = place c 6
place_of (Hold c) = place c 7
place_of Halt = place 2 8
place_of Stop = place 0 0

-- "Address stands in T1, T2, wait and T3"
unfoldable pub stands_of : ℕ → Bool
stands_of s = nat_le s 3 || s == 6

-- PC as it was in T1 of the cycle: in a wait and in T3 it may have risen
unfoldable pub first_pc_of : ℕ → ℕ → Kept → Registers → ℕ
first_pc_of code s k r = pick (raises_of code k.ack && nat_lt 2 s) (down_of r.pc 1) r.pc

-- the code of the cycle shown: a halt state shows HLT's second
unfoldable pub shown_of : Place → ℕ → ℕ
shown_of p op = pick (p.state == 8) halting (code_of op p.cycle)

-- what the state at the place p shows, but for the data; code is that of its cycle
unfoldable pub look_at : Place → ℕ → Machine → Look
look_at p code m =
    record {
      cycle = p.cycle;
      state = p.state;
      code = code;
      kind = kind_of code m.kept.ack;
      address =
          pick (stands_of p.state)
          (address_of code (first_pc_of code p.state m.kept m.regs) m.kept m.regs) 0;
    }

unfoldable pub look_of : Machine → Look
look_of m = look_at (place_of m.next) (shown_of (place_of m.next) m.kept.opcode) m
