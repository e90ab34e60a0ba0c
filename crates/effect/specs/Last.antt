-- An instruction's last state, of what it goes by. Cited by `effect::last`, `low` and `high`.
use Rattle.std.specs.Prelude.{ℕ, ◌==◌}
use Rattle.laws.specs.Choice.{pick}
use Rattle.opcodes.specs.Instructions.{Instruction}
use Rattle.effect.specs.declared.kept.Kept.{Kept}
use Rattle.effect.specs.declared.last.Last.{Last}
use Rattle.effect.specs.declared.registers.Registers.{Registers}
use Rattle.effect.specs.Registers.{reg_of}
use Rattle.effect.specs.Effect.{finish}

-- the registers after the instruction i
abbrev pub after_last : Instruction → Last → Registers
after_last i x = finish i x.met x.kept x.regs

-- what the digit n numbers: a register, or for M the byte read
unfoldable pub operand_of : ℕ → Kept → Registers → ℕ
operand_of n k r = pick (n == 6) k.b1 (reg_of n r)
