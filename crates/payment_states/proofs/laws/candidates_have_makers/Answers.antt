use Rattle.payment_states.proofs.MakerSteps.{all_made}
use Rattle.payment_states.proofs.laws.candidates_have_makers.Goals as goal

pub returns : goal.returns
returns c = all_made
