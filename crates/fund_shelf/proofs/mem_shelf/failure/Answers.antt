use Rattle.std.proofs.Common.{arith}
use Rattle.std.proofs.lemmas.Grind.{common_steps}
use Rattle.fund_shelf.proofs.Counts.{times_other}
use Rattle.fund_shelf.proofs.mem_shelf.failure.Goals as goal

pub returns-clause-others : goal.returns-clause-others
returns-clause-others c = λ other apart.
    let pushed = times_other other c.args.name.now c.args.names.now.items c.in-Ok.name c.in-Ok.ensures.ok apart in
    grind (arith, common_steps, pushed)
