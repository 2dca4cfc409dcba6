use Rattle.std.proofs.Common.{ap}
use Rattle.wide_plan.proofs.ClaimLaws.{run_used_up}
use Rattle.wide_plan.specs.Run.{by_end}
use Rattle.wide_plan.proofs.laws.wide_searches_end_with_their_tries.Goals as goal

pub returns : goal.returns
returns c = λ p closed tries are asked u. ap (by_end p) (run_used_up p closed tries are asked u)
