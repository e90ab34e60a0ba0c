-- What the cycles of an instruction make of registers, kept bytes, memory and output ports, one after the other, whatever the
-- states between. Assumes nothing.
use Prim.Native.Nat.{ℕ, suc}
use mathlib.Core.List.{List, [], ◌∷◌}
use Rattle.laws.specs.Choice.{pick}
use Rattle.opcodes.specs.Codes.{fetch4}
use Rattle.opcodes.specs.Kinds.{kind_of, reads_of}
use Rattle.effect.specs.declared.registers.Registers.{Registers}
use Rattle.effect.specs.declared.kept.Kept.{Kept}
use Rattle.effect.specs.Kept.{keep_of}
use Rattle.effect.specs.Bus.{address_of, given_of}
use Rattle.effect.specs.Effect.{effect_of}
use Rattle.machine.specs.declared.record.Position.{Position}
use Rattle.machine.specs.declared.request.Request.{Request}
use Rattle.machine.specs.Look.{first_pc_of}
use Rattle.machine.specs.Request.{asked_of}
use Rattle.machine.specs.Step.{risen_of}
use Rattle.run.specs.State.{byte_on, memory_after, outputs_after}
use Rattle.demands.specs.Manual.{Result}
use Rattle.demands.specs.Outside.{Outside, Moment}
use Rattle.demands.specs.Board.{Board}

-- what an instruction works on
pub record Work : Type 0 where
  pub regs : Registers
  pub kept : Kept
  pub memory : List ℕ
  pub outputs : List ℕ

-- what T3 of a cycle with this code asks of the bus
abbrev pub asking : ℕ → Registers → Kept → Request
asking code r k =
    asked_of (kind_of code k.ack) (address_of code (first_pc_of code 3 k r) k r) (given_of code k r) k

-- T2 of a cycle with this code, and T3 of it, where it has the number c + 1
abbrev pub risen : ℕ → Work → Work
risen code d =
    record { regs = risen_of code d.kept d.regs; kept = d.kept; memory = d.memory; outputs = d.outputs }

abbrev pub keeps : Outside → ℕ → ℕ → Registers → Kept → List ℕ → Kept
keeps E code c r k memory =
    pick (reads_of code) (keep_of (suc c) (byte_on (asking code r k) memory E.inputs) k) k

abbrev pub took : Outside → ℕ → ℕ → Work → Work
took E code c d =
    record {
      regs = d.regs;
      kept = keeps E code c d.regs d.kept d.memory;
      memory = memory_after (asking code d.regs d.kept) d.memory;
      outputs = outputs_after (asking code d.regs d.kept) d.outputs;
    }

-- a cycle, and the cycles of a list, the first of them with the number c + 1
abbrev pub use_cycle : Outside → ℕ → ℕ → Work → Work
use_cycle E code c d = took E code c (risen code d)

abbrev pub uses : Outside → ℕ → List ℕ → Work → Work
uses E c [] d = d
uses E c (code ∷ rest) d = uses E (suc c) rest (use_cycle E code c d)

-- the byte that T3 of a fetch reads, and the opcode of the work before the fetch
abbrev pub fetched : Outside → Work → ℕ
fetched E d = byte_on (asking fetch4 d.regs d.kept) d.memory E.inputs

abbrev pub opcode_of : Outside → Work → ℕ
opcode_of E d = fetched E (risen fetch4 d)

-- the cycles of a list, and the last state's effect
abbrev pub closing : Work → Result
closing d = record { regs = effect_of d.kept d.regs; memory = d.memory; outputs = d.outputs }

unfoldable pub result_of : Outside → List ℕ → Work → Result
result_of E cs d = closing (uses E 0 cs d)

-- the board with the work d, the position p next, at the moment t; and the work of a board
abbrev pub here : Work → Position → Moment → Board
here d p t =
    record {
      machine =
          record { regs = d.regs; kept = d.kept; lines = t.lines; clock = t.clock; next = p };
      memory = d.memory;
      outputs = d.outputs;
    }

abbrev pub work_of : Board → Work
work_of b =
    record { regs = b.machine.regs; kept = b.machine.kept; memory = b.memory; outputs = b.outputs }
