use Rattle.payment_states.proofs.PriceLaws.{confirmed_free, nothing_free, price_raises, price_rises, price_sum}
use Rattle.payment_states.proofs.laws.prices_raise_ancestors.Goals as goal

pub returns-clause-sum : goal.returns-clause-sum
returns-clause-sum c = λ w h rate i places apart rule. price_sum w h rate apart rule i places

pub returns-clause-raised : goal.returns-clause-raised
returns-clause-raised c = λ w h rate i j apart rule. price_raises w h rate apart rule i j

pub returns-clause-rises : goal.returns-clause-rises
returns-clause-rises c = price_rises

pub returns-clause-none : goal.returns-clause-none
returns-clause-none c = nothing_free

pub returns-clause-confirmed : goal.returns-clause-confirmed
returns-clause-confirmed c = confirmed_free
