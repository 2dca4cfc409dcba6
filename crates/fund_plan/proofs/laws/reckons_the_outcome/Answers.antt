use Rattle.fund_plan.proofs.OnceLaws.{outcome_where}
use Rattle.fund_plan.proofs.laws.reckons_the_outcome.Goals as goal

pub returns : goal.returns
returns c = outcome_where
