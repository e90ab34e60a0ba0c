-- `intel_hex::output::records`: the loop has written the records of the parts so far (Chunks).
use Rattle.std.proofs.Common.{◌≡◌, ◌+◌, ◌*◌, ◌<◌, length, drop}
use Rattle.std.specs.Iterator.Adapters.{enumerate_source, enumerate_count}
use Rattle.std.specs.Slice.Iter.{chunks_rest, chunks_size}
use Rattle.text.specs.Writer.{Adds}
use Rattle.intel_hex.specs.Write.{records_of}
use Rattle.intel_hex.proofs.output.records.Given as goal

abbrev pub invariant-loop-i : goal.invariant-loop-i
invariant-loop-i l =
    let left = enumerate_source l.i-iterator in
    let done = enumerate_count l.i-iterator in
    (chunks_size left ≡ 16)
    × (chunks_rest left ≡ drop (16 * done) l.range)
    × (16 * done < length l.range + 16)
    × Adds (records_of done l.start l.range) l.initial.text l.text
