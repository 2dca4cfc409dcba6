use Rattle.coin_book.proofs.WatchSteps.{all_suffices}
use Rattle.coin_book.proofs.book.Book.known.Goals as goal

pub of-requires : goal.of-requires
of-requires c = all_suffices _ c.self.invariant
