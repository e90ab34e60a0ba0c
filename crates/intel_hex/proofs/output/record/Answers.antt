-- `intel_hex::output::record`: the record's pieces one after the other (Made).
use Rattle.std.proofs.Common.{◌≡◌, ◌/◌, ◌%◌, get_or, arith}
use Rattle.intel_hex.proofs.Made.{record_made}
use Rattle.intel_hex.proofs.output.record.Goals as goal

pub returns : goal.returns
returns c =
    let high : get_or c.to_be_bytes.result 0 0 ≡ c.args.address / 256 = rw c.to_be_bytes.ensures (omega (arith, c.ranges.address)) in
    let low : get_or c.to_be_bytes.result 1 0 ≡ c.args.address % 256 = rw c.to_be_bytes.ensures (omega arith) in
    record_made _ _ _ _ _ c.wrapping_neg.result (rw (high, low) at c.sum.ensures) c.sum-2.ensures (omega arith) c.wrapping_neg.ensures c.put.ensures
    (rw (high, low) at c.digits.ensures) c.digits-2.ensures c.byte.ensures c.write.ensures
