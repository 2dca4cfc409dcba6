use Rattle.wide_check.proofs.WideSoundLaws.{accepted_best}
use Rattle.wide_check.proofs.trees.wide_accepted_is_best.Goals as goal

pub returns : goal.returns
returns c = accepted_best
