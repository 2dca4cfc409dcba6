use Rattle.wide_check.proofs.WideTreeSteps.{law_of_steps_is}
use Rattle.wide_check.proofs.trees.law_of_wide_steps.Goals as goal

pub returns : goal.returns
returns c = law_of_steps_is
