use Rattle.fund_plan.proofs.ClaimLaws.{none_claims}
use Rattle.fund_plan.proofs.laws.none_is_proved.Goals as goal

pub returns : goal.returns
returns c = none_claims
