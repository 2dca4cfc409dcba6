use Rattle.base58_addr.proofs.Halves.{halves_last}
use Rattle.base58_addr.proofs.number.last_digit.Goals as goal

pub returns-clause-value : goal.returns-clause-value
returns-clause-value c = halves_last c.args.number.high c.args.number.low c.args.base
