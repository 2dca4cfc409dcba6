use Rattle.command_end.proofs.CoinLaws.{coins_apart, hashes_apart}
use Rattle.command_end.proofs.word_laws.coins_are_told_apart.Goals as goal

pub returns-clause-hash : goal.returns-clause-hash
returns-clause-hash c = hashes_apart

pub returns-clause-coin : goal.returns-clause-coin
returns-clause-coin c = coins_apart
