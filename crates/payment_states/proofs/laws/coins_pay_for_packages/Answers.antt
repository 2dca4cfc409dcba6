use Rattle.payment_states.proofs.PricedSteps.{coins_pay}
use Rattle.payment_states.proofs.laws.coins_pay_for_packages.Goals as goal

pub returns : goal.returns
returns c = λ w h rate coins raised size paid apart rule. coins_pay w h rate apart rule coins raised size paid
