use Rattle.fund_plan.proofs.ClaimLaws.{funded_claims}
use Rattle.fund_plan.proofs.laws.payments_keep_their_claims.Goals as goal

pub returns : goal.returns
returns c = funded_claims
