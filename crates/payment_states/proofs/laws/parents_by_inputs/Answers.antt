use Rattle.payment_states.proofs.ParentSteps.{parents_is}
use Rattle.payment_states.proofs.laws.parents_by_inputs.Goals as goal

pub returns : goal.returns
returns c = parents_is
