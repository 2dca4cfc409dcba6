use Rattle.fund_plan.proofs.EndLaws.{new_told}
use Rattle.fund_plan.proofs.GoingLaws.{new_log, new_tries}
use Rattle.fund_plan.proofs.laws.new_plans_come_to.Goals as goal

pub returns-clause-outcome : goal.returns-clause-outcome
returns-clause-outcome c = new_told

pub returns-clause-tries : goal.returns-clause-tries
returns-clause-tries c = new_tries

pub returns-clause-log : goal.returns-clause-log
returns-clause-log c = new_log
