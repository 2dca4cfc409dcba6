use Rattle.std.proofs.Common.{◌∙◌, sym, ap}
use Rattle.coin_book.specs.Faults.{fault_of}
use Rattle.coin_book.specs.History.{History, with_pending}
use Rattle.coin_book.proofs.WatchSteps.{all_watched}
use Rattle.coin_book.proofs.book.Book.add_pending.Goals as goal

pub returns-clause-short : goal.returns-clause-short
returns-clause-short c = λ is.
    sym (ap (λ (h : History). fault_of (with_pending h c.args.tx.now)) c.self.view_is)
    ∙ c.add_pending.ensures.short (all_watched _ c.args.tx.now c.self.invariant) is
