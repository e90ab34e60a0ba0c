-- How many states an instruction takes. Source: document 01, "Cycles", second point, which lists the totals of Intel's 8080 manual
-- (opcodes, specs/Totals); not the table of cycles. Cited by the statements of the demands.
use Rattle.std.specs.Prelude.{ℕ, ◌/◌, ◌%◌}
use Rattle.opcodes.specs.Instructions.{decode}
use Rattle.opcodes.specs.Totals.{listed_total}
use Rattle.effect.specs.declared.registers.Registers.{Registers}
use Rattle.demands.specs.Symbols.{flags, condition}

-- the instruction with the opcode op under the registers r
unfoldable pub manual_states : ℕ → Registers → ℕ
manual_states op r = listed_total (decode op) (condition (op / 8 % 8) (flags r))

-- a restart that answers an interrupt: "11 states"
abbrev pub restart_states : ℕ
restart_states = 11
