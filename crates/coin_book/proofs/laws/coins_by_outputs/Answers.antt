use Rattle.coin_book.proofs.OutputSteps.{coins_are, coins_rise}
use Rattle.coin_book.proofs.laws.coins_by_outputs.Goals as goal

pub returns-clause-told : goal.returns-clause-told
returns-clause-told c = coins_are

pub returns-clause-order : goal.returns-clause-order
returns-clause-order c = coins_rise
