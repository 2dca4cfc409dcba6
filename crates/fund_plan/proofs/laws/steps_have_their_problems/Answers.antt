use Rattle.fund_plan.proofs.SourceLaws.{own_problem}
use Rattle.fund_plan.proofs.laws.steps_have_their_problems.Goals as goal

pub returns : goal.returns
returns c = own_problem
