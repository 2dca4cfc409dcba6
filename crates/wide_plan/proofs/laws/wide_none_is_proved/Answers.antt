use Rattle.wide_plan.proofs.ClaimLaws.{run_none}
use Rattle.wide_plan.proofs.laws.wide_none_is_proved.Goals as goal

pub returns : goal.returns
returns c = λ p rules are asked plain e. run_none p are asked plain e
