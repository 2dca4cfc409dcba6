use Rattle.search_run.proofs.MadeLaws.{run_stands}
use Rattle.run_laws.proofs.EndingLaws.{few_tried}
use Rattle.run_laws.proofs.laws.runs_stand_from_the_start.Goals as goal

pub returns-clause-stand : goal.returns-clause-stand
returns-clause-stand c = λ seed steps n are. run_stands seed steps are n

pub returns-clause-few : goal.returns-clause-few
returns-clause-few c = few_tried
