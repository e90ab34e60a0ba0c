-- `intel_hex::write`: past the tests, the range is the part of memory that is lent (Writes).
use Rattle.std.proofs.Common.{Err, arith, rules, refl, ap, length, ◌≡◌, ◌-◌, ◌∙◌}
use Rattle.intel_hex.specs.declared.answer.Refusal.TheVariants.{PastEnd}
use Rattle.intel_hex.specs.Write.{range_of, length_for}
use Rattle.intel_hex.proofs.Writes.{past_all, written}
use Rattle.intel_hex.proofs.write.Goals as goal

pub returns-in_err-range : goal.returns-in_err-range
returns-in_err-range c =
    let chunk = rw c.in_ok-memory.ensures.ok_part at c.as_array.ensures.cases in
    let none = rw c.in_err-range.ensures.ok_part at c.get.ensures.lookup in
    let answer : c.from_residual-in_err-range.result ≡ Err PastEnd = search rules in
    rw answer (past_all _ _ _ _ chunk.long _ (omega (arith, c.ranges.start)) c.saturating_add-end.ensures (rw (chunk.same, chunk.long) at none.0))

pub returns : goal.returns
unfolding length_for
returns c =
    let chunk = rw c.in_ok-memory.ensures.ok_part at c.as_array.ensures.cases in
    let part = (rw c.in_ok-range.ensures.ok_part at c.get.ensures.lookup).0 in
    let many : c.saturating_add-end.result - c.args.start ≡ c.args.length = omega (arith, c.saturating_add-end.ensures, part.1) in
    let range : c.in_ok-range.range.now ≡ range_of c.args.memory.now c.args.start c.args.length = part.2 ∙ rw (many, chunk.same) refl in
    written _ _ _ _ chunk.long (omega (arith, c.saturating_add-end.ensures, part.1, ap length chunk.same, chunk.long)) _ _ _ range (omega (arith, c.div_ceil.ensures)) c.if-out-size.false c.records.ensures c.record.ensures refl refl (search rules)
