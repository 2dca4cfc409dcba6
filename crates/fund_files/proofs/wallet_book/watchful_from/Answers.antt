use Rattle.fund_files.proofs.WatchedLaws.{each_watched}
use Rattle.fund_files.proofs.wallet_book.watchful_from.Goals as goal

pub settled_from-requires-clause-waiting : goal.settled_from-requires-clause-waiting
settled_from-requires-clause-waiting g c = each_watched c.everything-watched.result c.args.wallet.now.pending c.everything-watched.ensures
