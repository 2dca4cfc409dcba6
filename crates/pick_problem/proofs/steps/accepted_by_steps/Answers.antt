use Rattle.pick_problem.proofs.StepLaws.{accepted_by_letters, accepted_by_steps}
use Rattle.pick_problem.proofs.steps.accepted_by_steps.Goals as goal

pub returns : goal.returns
returns c = record { tokens = accepted_by_steps; letters = accepted_by_letters }
