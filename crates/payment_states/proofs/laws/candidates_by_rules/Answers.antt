use Rattle.payment_states.proofs.OfferSteps.{may_be_spent}
use Rattle.payment_states.proofs.laws.candidates_by_rules.Goals as goal

pub returns : goal.returns
returns c = may_be_spent
