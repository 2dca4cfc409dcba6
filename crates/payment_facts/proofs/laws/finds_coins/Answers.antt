use Rattle.payment_facts.proofs.AnySteps.{facts_fit, none_facts, own_facts, same_facts}
use Rattle.payment_facts.proofs.laws.finds_coins.Goals as goal

pub returns-clause-own : goal.returns-clause-own
returns-clause-own c = own_facts

pub returns-clause-none : goal.returns-clause-none
returns-clause-none c = none_facts

pub returns-clause-same : goal.returns-clause-same
returns-clause-same c = same_facts

pub returns-clause-fit : goal.returns-clause-fit
returns-clause-fit c = λ w h tip rate o x rules book sound e. (facts_fit w h tip rate o x rules book sound e).0

pub returns-clause-made : goal.returns-clause-made
returns-clause-made c = λ w h tip rate o x rules book sound e. (facts_fit w h tip rate o x rules book sound e).1
