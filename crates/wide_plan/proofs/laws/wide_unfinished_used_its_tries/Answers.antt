use Rattle.wide_plan.proofs.ClaimLaws.{run_left}
use Rattle.wide_plan.proofs.laws.wide_unfinished_used_its_tries.Goals as goal

pub returns : goal.returns
returns c = run_left
