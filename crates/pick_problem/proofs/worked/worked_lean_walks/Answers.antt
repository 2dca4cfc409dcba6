use Rattle.std.proofs.Common.{refl}
use Rattle.pick_problem.proofs.worked.worked_lean_walks.Goals as goal

pub returns : goal.returns
returns c = record { heavy = refl; heavier = refl; heavier_goes_on = refl; far = refl; far_goes_on = refl; twins = refl }
