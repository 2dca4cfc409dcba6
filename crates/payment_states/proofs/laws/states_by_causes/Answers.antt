use Rattle.payment_states.proofs.CauseSteps.{payment_is, payments_long}
use Rattle.payment_states.proofs.laws.states_by_causes.Goals as goal

pub returns-clause-count : goal.returns-clause-count
returns-clause-count c = payments_long

pub returns-clause-exact : goal.returns-clause-exact
returns-clause-exact c = payment_is
