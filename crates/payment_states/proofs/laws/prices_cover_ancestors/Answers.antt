use Rattle.payment_states.proofs.PriceLaws.{prices_cover}
use Rattle.payment_states.proofs.laws.prices_cover_ancestors.Goals as goal

pub returns : goal.returns
returns c = λ w h rate payments raised apart rule. prices_cover w h rate apart rule payments raised
