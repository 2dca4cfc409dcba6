use Rattle.payment_states.proofs.PriceLaws.{packages_pay}
use Rattle.payment_states.proofs.laws.packages_pay_the_rate.Goals as goal

pub returns : goal.returns
returns c = λ w h rate payments raised size paid apart rule. packages_pay w h rate apart rule payments raised size paid
