-- `intel_hex::input::land`: a turn of the loop puts a good line's data into memory, and it ends at the end record or where no line
-- is left (Lined, Judged).
use Rattle.std.proofs.Common.{rules, refl, ◌∙◌}
use Rattle.intel_hex.proofs.Lined.{line_first, lines_none}
use Rattle.intel_hex.proofs.Judged.{good_fields, good_end, good_data, good_landed, good_next, landed_none}
use Rattle.intel_hex.proofs.input.land.Goals as goal

pub of-requires : goal.of-requires
of-requires c =
    let first = line_first _ c.in-Some.ensures.steps (λ a r q k. (search rules, refl)) in
    good_fields _ _ _ first c.loop-line.invariant.0 _ c.bare-line.ensures

pub returns-then-of-eq1 : goal.returns-then-of-eq1
returns-then-of-eq1 c =
    let first = line_first _ c.in-Some.ensures.steps (λ a r q k. (search rules, refl)) in
    good_end _ _ _ first c.loop-line.invariant.0 _ c.bare-line.ensures _ c.of.ensures c.if-of-eq1.true _ ∙ c.loop-line.invariant.1

pub land-requires : goal.land-requires
land-requires c =
    let first = line_first _ c.in-Some.ensures.steps (λ a r q k. (search rules, refl)) in
    good_data _ _ _ first c.loop-line.invariant.0 _ c.bare-line.ensures _ c.of.ensures c.if-of-eq1.false

pub loop-line-preserved : goal.loop-line-preserved
loop-line-preserved c =
    let first = line_first _ c.in-Some.ensures.steps (λ a r q k. (search rules, refl)) in (
      good_next _ _ _ first c.loop-line.invariant.0 _ c.bare-line.ensures _ c.of.ensures c.if-of-eq1.false,
      rw c.land.ensures (good_landed _ _ _ first c.loop-line.invariant.0 _ c.bare-line.ensures _ c.of.ensures c.if-of-eq1.false _ ∙ c.loop-line.invariant.1),
    )

pub returns : goal.returns
returns c = landed_none _ _ (lines_none _ c.in-None.ensures.steps.0) ∙ c.loop-line.invariant.1
