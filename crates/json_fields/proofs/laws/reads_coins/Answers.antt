use Rattle.json_fields.proofs.CoinLaws.{found, only}
use Rattle.json_fields.proofs.laws.reads_coins.Goals as goal

pub returns-clause-found : goal.returns-clause-found
returns-clause-found c = found

pub returns-clause-only : goal.returns-clause-only
returns-clause-only c = only
