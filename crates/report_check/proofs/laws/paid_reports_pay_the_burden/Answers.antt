use Rattle.report_check.proofs.BurdenLaws.{burden_said, replaced_said, weight_said}
use Rattle.report_check.proofs.laws.paid_reports_pay_the_burden.Goals as goal

pub returns-clause-fee : goal.returns-clause-fee
returns-clause-fee c = burden_said

pub returns-clause-weight : goal.returns-clause-weight
returns-clause-weight c = weight_said

pub returns-clause-coins : goal.returns-clause-coins
returns-clause-coins c = replaced_said
