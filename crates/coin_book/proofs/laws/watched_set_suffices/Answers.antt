use Rattle.coin_book.proofs.AskedSteps.{point_listed, suffices_both, txid_listed}
use Rattle.coin_book.proofs.laws.watched_set_suffices.Goals as goal

pub returns-clause-whole : goal.returns-clause-whole
returns-clause-whole c = suffices_both

pub returns-clause-points : goal.returns-clause-points
returns-clause-points c = point_listed

pub returns-clause-txids : goal.returns-clause-txids
returns-clause-txids c = txid_listed
