use Rattle.coin_maximum.proofs.MaximumLaws.{same_maximum}
use Rattle.coin_maximum.proofs.laws.amounts_leave_the_maximum.Goals as goal

pub returns : goal.returns
returns c = same_maximum
