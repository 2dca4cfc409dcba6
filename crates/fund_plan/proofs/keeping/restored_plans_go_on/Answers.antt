use Rattle.fund_plan.proofs.KeepLaws.{log_on, saved_on, told_on, tries_on}
use Rattle.fund_plan.proofs.keeping.restored_plans_go_on.Goals as goal

pub returns-clause-outcome : goal.returns-clause-outcome
returns-clause-outcome c = λ s n m job parts saved are stands e. told_on s n job parts saved are stands e m

pub returns-clause-tries : goal.returns-clause-tries
returns-clause-tries c = λ s n m job parts saved are stands e. tries_on s n job parts saved are stands e m

pub returns-clause-log : goal.returns-clause-log
returns-clause-log c = λ s n m job parts saved are stands e. log_on s n job parts saved are stands e m

pub returns-clause-saved : goal.returns-clause-saved
returns-clause-saved c = λ s n m job parts saved are stands e now count. saved_on s n job parts saved are stands e m now count
