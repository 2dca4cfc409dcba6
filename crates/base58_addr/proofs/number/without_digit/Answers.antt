use Rattle.base58_addr.proofs.Halves.{halves_over}
use Rattle.base58_addr.proofs.number.without_digit.Goals as goal

pub returns-clause-value : goal.returns-clause-value
returns-clause-value c = halves_over c.args.number.high c.args.number.low c.args.base c.requires.least
