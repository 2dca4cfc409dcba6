use Rattle.fund_plan.proofs.ClaimLaws.{answers_or_tries, ended_is, one_plan_answer}
use Rattle.fund_plan.proofs.laws.plans_have_one_answer.Goals as goal

pub returns-clause-one : goal.returns-clause-one
returns-clause-one c = one_plan_answer

pub returns-clause-ended : goal.returns-clause-ended
returns-clause-ended c = ended_is

pub returns-clause-either : goal.returns-clause-either
returns-clause-either c = answers_or_tries
