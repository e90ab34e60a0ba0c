-- `intel_hex::output::sum`: a fold (Turns).
use Rattle.std.proofs.Common.{◌≡◌, ◌+◌, ◌%◌, ◌∙◌, rules}
use Rattle.std.specs.List.{fold}
use Rattle.intel_hex.proofs.Turns.{sum_fold}
use Rattle.intel_hex.proofs.output.sum.Goals as goal

pub returns : goal.returns
returns c =
    let e : c.fold.result ≡ fold (λ a b. (a + b) % 256) 0 c.args.bytes.now = search rules in
    e ∙ sum_fold c.args.bytes.now
