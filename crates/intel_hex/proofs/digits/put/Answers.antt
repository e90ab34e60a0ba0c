-- `intel_hex::digits::put`: a turn of the loop puts a byte more (Scan).
use Rattle.std.proofs.Common.{arith, ◌∙◌}
use Rattle.std.proofs.lemmas.Grind.{common_steps}
use Rattle.intel_hex.proofs.Scan.{hex_left, bytes_pair, sets_more}
use Rattle.intel_hex.proofs.digits.put.Goals as goal

pub loop-i-preserved : goal.loop-i-preserved
loop-i-preserved c =
    let s = c.in-Some.ensures.steps in
    let size = c.loop-i.invariant.0 in
    let split = s.0.1.0 in
    let two = s.0.1.1 ∙ size in
    let more = bytes_pair _ _ _ split two in
    (s.0.0 ∙ size, hex_left _ _ _ split c.loop-i.invariant.1, grind (arith, common_steps), grind (arith, common_steps), grind (arith, common_steps, more, sets_more, c.byte_at.ensures))
