use Rattle.known_fees.proofs.OnceSteps.{spent_apart, spent_each}
use Rattle.known_fees.proofs.laws.spent_once.Goals as goal

pub returns-clause-each : goal.returns-clause-each
returns-clause-each c = spent_each

pub returns-clause-once : goal.returns-clause-once
returns-clause-once c = spent_apart
