-- `intel_hex::input::judge`: the loop keeps the answer for the lines that are left.
use Rattle.std.proofs.Common.{◌≡◌, ◌+◌}
use Rattle.std.specs.Iterator.Adapters.{enumerate_source, enumerate_count}
use Rattle.std.specs.Slice.Iter.{split_inclusive_rest}
use Rattle.intel_hex.specs.Lines.{text_lines}
use Rattle.intel_hex.specs.Read.{judged_from}
use Rattle.intel_hex.proofs.input.judge.Given as goal

abbrev pub invariant-loop-i : goal.invariant-loop-i
invariant-loop-i l =
    let left = enumerate_source l.i-iterator in
    (judged_from (enumerate_count l.i-iterator + 1) (text_lines (split_inclusive_rest left)) ≡ judged_from 1 (text_lines l.text))
