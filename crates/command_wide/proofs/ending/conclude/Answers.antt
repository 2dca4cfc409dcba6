use Rattle.command_wide.proofs.EndedLaws.{can_report}
use Rattle.command_wide.proofs.ending.conclude.Goals as goal

pub ends-requires-clause-can : goal.ends-requires-clause-can
ends-requires-clause-can c = can_report c.args.held.now c.args.request.now c.in_ok-run.run' c.requires.held c.keeps_rules.ensures c.in_ok-run.ensures.run

pub returns-clause-ends : goal.returns-clause-ends
returns-clause-ends c = record { run = c.in_ok-run.run'; made = c.in_ok-run.ensures.run; ends = c.in_ok-ending.ensures }
