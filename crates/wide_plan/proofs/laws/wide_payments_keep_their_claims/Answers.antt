use Rattle.wide_plan.proofs.ClaimLaws.{run_claims}
use Rattle.wide_plan.proofs.laws.wide_payments_keep_their_claims.Goals as goal

pub returns : goal.returns
returns c = λ p f rules are asked plain e. run_claims p f are asked e
