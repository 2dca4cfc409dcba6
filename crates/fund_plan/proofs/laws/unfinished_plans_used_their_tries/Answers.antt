use Rattle.fund_plan.proofs.ClaimLaws.{open_claims}
use Rattle.fund_plan.proofs.laws.unfinished_plans_used_their_tries.Goals as goal

pub returns : goal.returns
returns c = open_claims
