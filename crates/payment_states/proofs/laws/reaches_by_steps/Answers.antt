use Rattle.payment_states.proofs.Paths.{decides}
use Rattle.payment_states.proofs.laws.reaches_by_steps.Goals as goal

pub returns : goal.returns
returns c = decides
