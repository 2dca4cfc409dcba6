use Rattle.command_inputs.proofs.PlanLaws.{can_end, concluded}
use Rattle.command_inputs.proofs.funding.conclude.Goals as goal

pub ends-requires : goal.ends-requires
ends-requires c =
    let run = c.in_ok-run.run' in
    record { held = c.requires.held; can = can_end c.args.held.now c.args.request.now run.plan run.outcome c.requires.held c.keeps_rules.ensures c.in_ok-run.ensures.run }

pub returns-clause-ends : goal.returns-clause-ends
returns-clause-ends c =
    let run = c.in_ok-run.run' in
    concluded c.args.held.now c.args.request.now run.plan run.outcome c.in_ok-ending.ending c.requires.held c.keeps_rules.ensures c.requires.taken c.in_ok-run.ensures.run c.in_ok-ending.ensures
