use Rattle.fund_plan.proofs.EligibleLaws.{payment_eligible, payment_may}
use Rattle.fund_plan.proofs.laws.payments_spend_eligible_coins.Goals as goal

pub returns-clause-may : goal.returns-clause-may
returns-clause-may c = payment_may

pub returns-clause-plain : goal.returns-clause-plain
returns-clause-plain c = payment_eligible
