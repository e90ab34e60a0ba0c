-- `text::Text::write`: the loop has written the characters so far.
use Rattle.std.proofs.Common.{take}
use Rattle.text.specs.Writer.{Adds}
use Rattle.text.proofs.Text.write.Given as goal

abbrev pub invariant-loop-c : goal.invariant-loop-c
invariant-loop-c l = Adds (take l.c-index l.s) l.initial.self l.self
