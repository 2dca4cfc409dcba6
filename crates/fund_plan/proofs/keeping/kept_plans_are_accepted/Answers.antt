use Rattle.fund_plan.proofs.KeepLaws.{accepted_on, written_on}
use Rattle.fund_plan.proofs.keeping.kept_plans_are_accepted.Goals as goal

pub returns-clause-written : goal.returns-clause-written
returns-clause-written c = λ s n job parts saved are stands e some few. written_on s n job parts saved are stands e some few

pub returns-clause-accepted : goal.returns-clause-accepted
returns-clause-accepted c = λ s n job parts saved are stands e few. accepted_on s n job parts saved are stands e few
