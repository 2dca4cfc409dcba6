use Rattle.wide_check.proofs.WideStepLaws.{accepted_by_letters, accepted_by_steps}
use Rattle.wide_check.proofs.trees.accepted_by_wide_steps.Goals as goal

pub returns : goal.returns
returns c = record { tokens = accepted_by_steps; letters = accepted_by_letters }
