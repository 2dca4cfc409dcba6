use Rattle.fund_plan.proofs.MeasureLaws.{count_measured, waste_measured, weight_measured}
use Rattle.fund_plan.proofs.laws.results_measure_their_payments.Goals as goal

pub returns-clause-waste : goal.returns-clause-waste
returns-clause-waste c = waste_measured

pub returns-clause-weight : goal.returns-clause-weight
returns-clause-weight c = weight_measured

pub returns-clause-coins : goal.returns-clause-coins
returns-clause-coins c = count_measured
