use Rattle.payment_states.proofs.LookSteps.{none_is, own_is}
use Rattle.payment_states.proofs.laws.finds_states.Goals as goal

pub returns-clause-own : goal.returns-clause-own
returns-clause-own c = own_is

pub returns-clause-none : goal.returns-clause-none
returns-clause-none c = none_is
