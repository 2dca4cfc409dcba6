use Rattle.fund_plan.proofs.FoundLaws.{found_pays}
use Rattle.fund_plan.proofs.laws.results_pay.Goals as goal

pub returns : goal.returns
returns c = found_pays
