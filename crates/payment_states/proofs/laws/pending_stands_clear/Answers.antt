use Rattle.payment_states.proofs.ClearSteps.{inputs_unspent, one_spender, parents_pending}
use Rattle.payment_states.proofs.laws.pending_stands_clear.Goals as goal

pub returns-clause-inputs : goal.returns-clause-inputs
returns-clause-inputs c = inputs_unspent

pub returns-clause-parents : goal.returns-clause-parents
returns-clause-parents c = parents_pending

pub returns-clause-apart : goal.returns-clause-apart
returns-clause-apart c = one_spender
