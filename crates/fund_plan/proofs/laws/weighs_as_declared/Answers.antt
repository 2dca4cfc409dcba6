use Rattle.fund_plan.proofs.WeightLaws.{answer_weighed}
use Rattle.fund_plan.proofs.laws.weighs_as_declared.Goals as goal

pub returns : goal.returns
returns c = answer_weighed
