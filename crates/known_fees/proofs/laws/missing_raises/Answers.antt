use Rattle.known_fees.proofs.KnownSteps.{fee_known}
use Rattle.known_fees.proofs.MissingLaws.{least, raises, rises, unknown}
use Rattle.known_fees.proofs.laws.missing_raises.Goals as goal

pub returns-clause-raises : goal.returns-clause-raises
returns-clause-raises c = raises

pub returns-clause-least : goal.returns-clause-least
returns-clause-least c = least

pub returns-clause-unknown : goal.returns-clause-unknown
returns-clause-unknown c = unknown

pub returns-clause-rises : goal.returns-clause-rises
returns-clause-rises c = rises

pub returns-clause-known : goal.returns-clause-known
returns-clause-known c = fee_known
