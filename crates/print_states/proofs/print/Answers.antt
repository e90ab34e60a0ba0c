-- `print_states::print`: a run from the cold machine and the listing of its trace (Whole).
use Rattle.print_states.proofs.Whole.{whole}
use Rattle.print_states.proofs.print.Goals as goal

pub returns : goal.returns
returns c = whole _ _ _ _ _ _ _ _ _ _ c.cold.ensures c.run.ensures c.run.auto.trace c.ran-after.ensures c.listing.ensures
