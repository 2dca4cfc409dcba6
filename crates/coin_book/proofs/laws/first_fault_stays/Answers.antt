use Rattle.coin_book.proofs.LawSteps.{block_stays, pending_stays}
use Rattle.coin_book.proofs.laws.first_fault_stays.Goals as goal

pub returns-clause-blocks : goal.returns-clause-blocks
returns-clause-blocks c = block_stays

pub returns-clause-waiting : goal.returns-clause-waiting
returns-clause-waiting c = pending_stays
