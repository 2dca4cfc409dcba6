use Rattle.wide_plan.proofs.ClaimLaws.{run_pays}
use Rattle.wide_plan.proofs.laws.wide_payments_pay.Goals as goal

pub returns : goal.returns
returns c = run_pays
