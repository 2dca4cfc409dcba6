use Rattle.fund_plan.proofs.KeepLaws.{restored_answers, verified_answers}
use Rattle.fund_plan.proofs.RefusedLaws.{new_accepted}
use Rattle.fund_plan.proofs.keeping.verified_plans_have_the_answer.Goals as goal

pub returns-clause-stands : goal.returns-clause-stands
returns-clause-stands c = verified_answers

pub returns-clause-restored : goal.returns-clause-restored
returns-clause-restored c = restored_answers

pub returns-clause-made : goal.returns-clause-made
returns-clause-made c = new_accepted
