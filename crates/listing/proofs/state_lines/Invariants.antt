-- `listing::state_lines`: the loop has written the lines so far.
use Rattle.std.proofs.Common.{take}
use Rattle.text.specs.Writer.{Adds}
use Rattle.listing.specs.Listing.{state_lines_of}
use Rattle.listing.proofs.state_lines.Given as goal

abbrev pub invariant-loop-i : goal.invariant-loop-i
invariant-loop-i l = Adds (state_lines_of 0 (take l.i l.rows)) l.initial.text l.text
