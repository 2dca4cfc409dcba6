use Rattle.known_fees.proofs.KnownSteps.{known_both, value_both}
use Rattle.known_fees.proofs.laws.worth_by_coins_and_outputs.Goals as goal

pub returns-clause-value : goal.returns-clause-value
returns-clause-value c = value_both

pub returns-clause-known : goal.returns-clause-known
returns-clause-known c = known_both
