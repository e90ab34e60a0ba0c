-- The cycles that an opcode has under the present flags. Cited by the legs of a run.
use Rattle.std.specs.Prelude.{ℕ, List}
use Rattle.opcodes.specs.Condition.{met_of}
use Rattle.opcodes.specs.Instructions.{decode}
use Rattle.opcodes.specs.Cycles.{cycles}

-- the codes of the cycles of the opcode op under the flag byte f
unfoldable pub course_of : ℕ → ℕ → List ℕ
course_of op f = cycles (decode op) (met_of op f)
