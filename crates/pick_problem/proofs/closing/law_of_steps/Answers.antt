use Rattle.pick_problem.proofs.TreeSteps.{law_of_steps_is}
use Rattle.pick_problem.proofs.closing.law_of_steps.Goals as goal

pub returns : goal.returns
returns c = law_of_steps_is
