use Rattle.payment_states.proofs.PricedSteps.{all_priced, coin_price, confirmed_none, price_here, unlisted_none}
use Rattle.payment_states.proofs.laws.coins_have_prices.Goals as goal

pub returns-clause-coin : goal.returns-clause-coin
returns-clause-coin c = coin_price

pub returns-clause-offered : goal.returns-clause-offered
returns-clause-offered c = all_priced

pub returns-clause-waiting : goal.returns-clause-waiting
returns-clause-waiting c = price_here

pub returns-clause-confirmed : goal.returns-clause-confirmed
returns-clause-confirmed c = confirmed_none

pub returns-clause-unlisted : goal.returns-clause-unlisted
returns-clause-unlisted c = unlisted_none
