-- `intel_hex::output::digits`: the loop has written the digits of the bytes so far.
use Rattle.std.proofs.Common.{take}
use Rattle.text.specs.Writer.{Adds}
use Rattle.intel_hex.specs.Digits.{digits_of}
use Rattle.intel_hex.proofs.output.digits.Given as goal

abbrev pub invariant-loop-b : goal.invariant-loop-b
invariant-loop-b l = Adds (digits_of (take l.b-index l.bytes)) l.initial.text l.text
