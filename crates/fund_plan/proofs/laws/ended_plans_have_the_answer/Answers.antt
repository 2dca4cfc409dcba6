use Rattle.fund_plan.proofs.EndLaws.{ended_answers}
use Rattle.fund_plan.proofs.laws.ended_plans_have_the_answer.Goals as goal

pub returns : goal.returns
returns c = ended_answers
