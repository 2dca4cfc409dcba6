use Rattle.command_complete.proofs.OutcomeLaws.{one_outcome}
use Rattle.command_complete.proofs.laws.completions_have_one_outcome.Goals as goal

pub returns : goal.returns
returns c = one_outcome
