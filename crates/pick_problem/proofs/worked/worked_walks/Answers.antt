use Rattle.std.proofs.Common.{refl}
use Rattle.pick_problem.proofs.worked.worked_walks.Goals as goal

pub returns : goal.returns
returns c = record { changeless = refl; three_tries = refl; lean = refl; halfway = refl; little = refl }
