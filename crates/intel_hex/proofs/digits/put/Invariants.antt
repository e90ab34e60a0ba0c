-- `intel_hex::digits::put`: the loop keeps memory as it will be.
use Rattle.std.proofs.Common.{◌≡◌, ◌+◌, ◌/◌, ◌≤◌, true, length}
use Rattle.std.proofs.Math.Seq.{sets}
use Rattle.std.specs.Iterator.Adapters.{enumerate_source, enumerate_count}
use Rattle.std.specs.Slice.Iter.{chunks_exact_rest, chunks_exact_size}
use Rattle.intel_hex.specs.Digits.{all_hex, bytes_in}
use Rattle.intel_hex.proofs.digits.put.Given as goal

abbrev pub invariant-loop-i : goal.invariant-loop-i
invariant-loop-i l =
    let left = enumerate_source l.i-iterator in
    let place = l.address + enumerate_count l.i-iterator in
    (chunks_exact_size left ≡ 2)
    × (all_hex (chunks_exact_rest left) ≡ true)
    × (length l.memory ≡ length l.initial.memory)
    × (place + length (chunks_exact_rest left) / 2 ≤ length l.memory)
    × (sets l.memory place (bytes_in (chunks_exact_rest left)) ≡ sets l.initial.memory l.address (bytes_in l.s))
