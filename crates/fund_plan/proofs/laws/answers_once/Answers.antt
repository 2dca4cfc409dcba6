use Rattle.fund_plan.proofs.OnceLaws.{one_outcome}
use Rattle.fund_plan.proofs.laws.answers_once.Goals as goal

pub returns : goal.returns
returns c = one_outcome
