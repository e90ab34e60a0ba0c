-- `listing::listing`: the lines of the states before the halt, and the last line (Length, `listed`).
use Rattle.std.proofs.Common.{rules, arith, refl, ◌≡◌}
use Rattle.listing.specs.Listing.{rows_of}
use Rattle.listing.proofs.Length.{listed}
use Rattle.listing.proofs.listing.Goals as goal

pub returns : goal.returns
returns c =
    let rows : c.as_chunks.result.0.now ≡ rows_of c.args.trace.now = c.as_chunks.ensures.front in
    let halt = rw rows at c.before_halt-n.ensures in
    let lines = rw rows at c.state_lines.ensures in
    listed _ _ _ _ _ (omega arith) (λ j. omega (arith, c.type_inv.trace j)) refl halt lines c.last_line.ensures (search rules)
