use Rattle.people_advice.proofs.StatusLaws.{numbered}
use Rattle.people_advice.proofs.laws.statuses_are_numbered.Goals as goal

pub returns : goal.returns
returns c = numbered
