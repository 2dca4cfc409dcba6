use Rattle.payment_states.proofs.SafeSteps.{safe_step}
use Rattle.payment_states.proofs.laws.safe_by_parents.Goals as goal

pub returns : goal.returns
returns c = safe_step
