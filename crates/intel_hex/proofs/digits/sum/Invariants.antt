-- `intel_hex::digits::sum`: the loop keeps the sum of what it has and what is left.
use Rattle.std.proofs.Common.{◌≡◌, ◌+◌, ◌%◌, true}
use Rattle.std.specs.Slice.Iter.{chunks_exact_rest, chunks_exact_size}
use Rattle.intel_hex.specs.Digits.{all_hex, bytes_in, byte_sum}
use Rattle.intel_hex.proofs.digits.sum.Given as goal

abbrev pub invariant-loop-pair : goal.invariant-loop-pair
invariant-loop-pair l =
    (chunks_exact_size l.pair-iterator ≡ 2)
    × (all_hex (chunks_exact_rest l.pair-iterator) ≡ true)
    × ((l.total + byte_sum (bytes_in (chunks_exact_rest l.pair-iterator))) % 256 ≡ byte_sum (bytes_in l.s) % 256)
