-- `intel_hex::input::land`: the loop keeps that the lines that are left are good, and memory as they will leave it.
use Rattle.std.proofs.Common.{Ok, ◌≡◌}
use Rattle.std.specs.Slice.Iter.{split_inclusive_rest}
use Rattle.intel_hex.specs.Lines.{text_lines}
use Rattle.intel_hex.specs.Read.{judged_from, landed_from}
use Rattle.intel_hex.proofs.input.land.Given as goal

abbrev pub invariant-loop-line : goal.invariant-loop-line
invariant-loop-line l =
    let left = text_lines (split_inclusive_rest l.line-iterator) in
    (judged_from 1 left ≡ Ok tt) × (landed_from left l.memory ≡ landed_from (text_lines l.text) l.initial.memory)
