use Rattle.coin_book.proofs.SpendSteps.{spends_are, spends_rise}
use Rattle.coin_book.proofs.laws.spends_by_inputs.Goals as goal

pub returns-clause-told : goal.returns-clause-told
returns-clause-told c = spends_are

pub returns-clause-order : goal.returns-clause-order
returns-clause-order c = spends_rise
