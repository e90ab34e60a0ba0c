-- `intel_hex::input::judge`: a turn of the loop judges a line, and it ends at the end record, at a fault or where no line is left
-- (Lined, Judged).
use Rattle.std.proofs.Common.{Ok, rules, refl, sym, ap, ◌∙◌}
use Rattle.intel_hex.specs.Record.{line_is}
use Rattle.intel_hex.proofs.Lined.{line_first, lines_none}
use Rattle.intel_hex.proofs.Judged.{judged_data, judged_end, judged_fault, judged_none}
use Rattle.intel_hex.proofs.input.judge.Goals as goal

pub loop-i-preserved : goal.loop-i-preserved
loop-i-preserved c =
    let first = line_first _ c.in-Some.ensures.steps.0 (λ a r q k. (search rules, refl)) in
    let is = ap line_is (sym c.bare.ensures) ∙ sym c.what.ensures ∙ c.in-Ok-Data.is ∙ ap Ok c.in-Ok-Data.field-0-is in
    rw c.in-Some.ensures.steps.2 (judged_data _ _ _ _ first is ∙ c.loop-i.invariant)

pub returns-in-Ok-End : goal.returns-in-Ok-End
returns-in-Ok-End c =
    let first = line_first _ c.in-Some.ensures.steps.0 (λ a r q k. (search rules, refl)) in
    let is = ap line_is (sym c.bare.ensures) ∙ sym c.what.ensures ∙ c.in-Ok-End.is ∙ ap Ok c.in-Ok-End.field-0-is in
    judged_end _ _ _ _ first is ∙ c.loop-i.invariant

pub returns-in-Err : goal.returns-in-Err
returns-in-Err c =
    let first = line_first _ c.in-Some.ensures.steps.0 (λ a r q k. (search rules, refl)) in
    let is = ap line_is (sym c.bare.ensures) ∙ sym c.what.ensures ∙ c.in-Err.is in
    rw (c.at.ensures, c.in-Some.ensures.steps.1) (judged_fault _ _ _ _ first _ is ∙ c.loop-i.invariant)

pub returns : goal.returns
returns c = rw c.at-2.ensures (judged_none _ _ (lines_none _ c.in-None.ensures.steps.0.0) ∙ c.loop-i.invariant)
