-- `saved::form::write` meets its contract.
-- Assumes nothing.
use Rattle.std.proofs.Common.{arith}
use Rattle.saved.proofs.Put.{written}
use Rattle.saved.proofs.form.write.Goals as goal

pub returns : goal.returns
returns c =
    let parts = written c.args.header.now c.args.outputs.now c.args.memory.now c.args.out.now 65536 in
    grind arith
