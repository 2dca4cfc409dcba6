use Rattle.search_run.proofs.MadeLaws.{run_stands}
use Rattle.search_run.proofs.laws.sections_are_accepted.Goals as goal

pub returns : goal.returns
returns c = λ seed steps n are. (run_stands seed steps are n).closed
