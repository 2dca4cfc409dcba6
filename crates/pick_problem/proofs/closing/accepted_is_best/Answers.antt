use Rattle.pick_problem.proofs.SoundLaws.{accepted_best}
use Rattle.pick_problem.proofs.closing.accepted_is_best.Goals as goal

pub returns : goal.returns
returns c = accepted_best
