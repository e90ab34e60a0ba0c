-- `schedule::order::check` meets its contract: the rows are the events (Rows).
-- Assumes nothing.
use Rattle.std.proofs.Common.{arith, refl, sym, ◌∙◌, ◌/◌, length}
use borrow.Author.Tests.{eqb-true}
use Rattle.schedule.specs.Events.{checked_of}
use Rattle.schedule.proofs.Rows.{rows_listed, rows_ordered, whole_rows}
use Rattle.schedule.proofs.order.check.Goals as goal

pub returns-then-not-all_listed : goal.returns-then-not-all_listed
unfolding checked_of
returns-then-not-all_listed c =
    let s = c.args.s.now in
    let listed = rw c.as_chunks.ensures.front at c.all_listed.ensures ∙ rows_listed s (length s / 6) in
    let whole = eqb-true _ _ (sym c.is_empty.ensures ∙ c.if-not-is_empty.false) in
    rw (whole_rows (length s) (omega (arith, whole)) (omega arith), ← listed, c.if-not-all_listed.true) refl

pub returns-then-not-all_follow : goal.returns-then-not-all_follow
unfolding checked_of
returns-then-not-all_follow c =
    let s = c.args.s.now in
    let listed = rw c.as_chunks.ensures.front at c.all_listed.ensures ∙ rows_listed s (length s / 6) in
    let ordered = rows_ordered s (length s / 6) _ (rw c.as_chunks.ensures.front at c.all_follow.ensures) in
    let whole = eqb-true _ _ (sym c.is_empty.ensures ∙ c.if-not-is_empty.false) in
    rw (whole_rows (length s) (omega (arith, whole)) (omega arith), ← listed, ← ordered, c.if-not-all_listed.false, c.if-not-all_follow.true) refl

pub returns : goal.returns
unfolding checked_of
returns c =
    let s = c.args.s.now in
    let listed = rw c.as_chunks.ensures.front at c.all_listed.ensures ∙ rows_listed s (length s / 6) in
    let ordered = rows_ordered s (length s / 6) _ (rw c.as_chunks.ensures.front at c.all_follow.ensures) in
    let whole = eqb-true _ _ (sym c.is_empty.ensures ∙ c.if-not-is_empty.false) in
    rw (whole_rows (length s) (omega (arith, whole)) (omega arith), ← listed, ← ordered, c.if-not-all_listed.false, c.if-not-all_follow.false) refl
