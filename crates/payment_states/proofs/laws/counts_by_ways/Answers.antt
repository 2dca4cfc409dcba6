use Rattle.payment_states.proofs.NumberSteps.{ancestors_are, descendants_are}
use Rattle.payment_states.proofs.laws.counts_by_ways.Goals as goal

pub returns-clause-ancestors : goal.returns-clause-ancestors
returns-clause-ancestors c = λ w i places apart rule. ancestors_are w apart rule i places

pub returns-clause-descendants : goal.returns-clause-descendants
returns-clause-descendants c = λ w i places apart rule. descendants_are w apart rule i places
