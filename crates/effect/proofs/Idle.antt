-- NOP and the undefined opcodes beside it leave the registers as they were.
-- Assumes nothing.
use Rattle.std.proofs.Common.{◌≡◌, Bool, true, false, refl}
use Rattle.laws.specs.Choice.{pick}
use Rattle.opcodes.specs.Instructions.{nop, undefined}
use Rattle.effect.specs.declared.registers.Registers.{Registers}
use Rattle.effect.specs.declared.kept.Kept.{Kept}
use Rattle.effect.specs.Effect.{finish}

pub idle : (b t : Bool) (k : Kept) (r : Registers) → r ≡ finish (pick b nop undefined) t k r
unfolding finish
idle true t k r = refl
idle false t k r = refl
