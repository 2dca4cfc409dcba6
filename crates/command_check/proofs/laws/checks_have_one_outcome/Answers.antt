use Rattle.command_check.proofs.OutcomeLaws.{one_outcome}
use Rattle.command_check.proofs.laws.checks_have_one_outcome.Goals as goal

pub returns : goal.returns
returns c = one_outcome
