use Rattle.pick_problem.proofs.PartLaws.{needed_where_short, part_short}
use Rattle.pick_problem.proofs.laws.parts_fall_short.Goals as goal

pub returns-clause-admissible : goal.returns-clause-admissible
returns-clause-admissible c = part_short

pub returns-clause-needed : goal.returns-clause-needed
returns-clause-needed c = needed_where_short
