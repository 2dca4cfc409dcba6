use Rattle.command_settle.proofs.OutcomeLaws.{one_outcome, one_rule}
use Rattle.command_settle.proofs.laws.settlings_have_one_outcome.Goals as goal

pub returns-clause-one : goal.returns-clause-one
returns-clause-one c = one_outcome

pub returns-clause-rule : goal.returns-clause-rule
returns-clause-rule c = one_rule
