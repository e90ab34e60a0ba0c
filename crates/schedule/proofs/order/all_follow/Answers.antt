-- `schedule::order::all_follow` meets its contract.
-- Assumes nothing.
use Rattle.std.proofs.Common.{rules, tests}
use Rattle.std.proofs.lemmas.Fn.{always_returns_same}
use Rattle.schedule.specs.Events.{may_follow}
use Rattle.schedule.proofs.order.all_follow.Goals as goal

pub returns : goal.returns
returns c = c.is_sorted_by.ensures.cases may_follow (always_returns_same _ _ _ (λ x b q k. search (rules, tests)))
