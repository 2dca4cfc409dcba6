use Rattle.fund_top.proofs.WordLaws.{spelled}
use Rattle.fund_top.proofs.laws.workloads_are_spelled.Goals as goal

pub returns : goal.returns
returns c = spelled
