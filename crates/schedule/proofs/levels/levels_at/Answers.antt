-- `schedule::levels::levels_at` meets its contract: the rows are the events (Rows).
-- Assumes nothing.
use Rattle.std.proofs.Common.{arith, sym, ap, ◌≡◌, ◌∙◌, ◌<◌, ◌/◌, length}
use Rattle.schedule.specs.Events.{state_number_of}
use Rattle.schedule.specs.Levels.{once_of}
use Rattle.schedule.proofs.Cursor.{levels_rest, levels_next}
use Rattle.schedule.proofs.Rows.{row_number, row_once}
use Rattle.schedule.proofs.levels.levels_at.Goals as goal

pub returns-then-t-state_number : goal.returns-then-t-state_number
returns-then-t-state_number c =
    let s = c.args.s.now in
    let i = c.loop-i.i in
    let number : c.state_number.result ≡ state_number_of s i =
    rw c.as_chunks.ensures.front at c.state_number.ensures ∙ row_number s (length s / 6) i (omega (arith, c.requires.room, c.loop-i-test.true))
    in
    let past : c.args.t < state_number_of s i = omega (arith, number, c.if-t-state_number.true) in
    record {
      lines = c.loop-i.invariant.0 ∙ sym (levels_rest s c.args.t c.args.l i c.args.n (omega arith) (λ j p q. omega (arith, past, c.requires.sorted i j p q)));
      within = omega arith;
      done = c.loop-i.invariant.1;
    }

pub loop-i-preserved : goal.loop-i-preserved
loop-i-preserved c =
    let s = c.args.s.now in
    let i = c.loop-i.i in
    let here : i < length s / 6 = omega (arith, c.requires.room, c.loop-i-test.true) in
    let number : c.state_number.result ≡ state_number_of s i =
    rw c.as_chunks.ensures.front at c.state_number.ensures ∙ row_number s (length s / 6) i here
    in
    let lines = rw c.as_chunks.ensures.front at c.once-lines.ensures ∙ row_once s (length s / 6) i c.args.t c.loop-i.lines here in (
      lines ∙ ap (λ l. once_of s i c.args.t l) c.loop-i.invariant.0 ∙ sym (levels_next s c.args.t c.args.l i),
      λ j p. omega (arith, c.requires.sorted j i (omega arith) c.loop-i-test.true, number, c.if-t-state_number.false),
    )
