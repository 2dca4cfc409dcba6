use Rattle.fund_plan.proofs.BurdenLaws.{burden_paid, burden_weight, replaced_spent}
use Rattle.fund_plan.proofs.laws.payments_pay_the_burden.Goals as goal

pub returns-clause-fee : goal.returns-clause-fee
returns-clause-fee c = burden_paid

pub returns-clause-weight : goal.returns-clause-weight
returns-clause-weight c = burden_weight

pub returns-clause-coins : goal.returns-clause-coins
returns-clause-coins c = replaced_spent
