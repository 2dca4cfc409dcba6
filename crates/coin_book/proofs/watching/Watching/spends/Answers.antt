use Rattle.std.proofs.Common.{◌≡◌, ◌∙◌, sym, ap, true}
use Rattle.coin_book.specs.Coins.{weight_for}
use Rattle.coin_book.specs.History.{History}
use Rattle.coin_book.specs.Invariant.{history_of}
use Rattle.coin_book.specs.Spends.{spends_of}
use Rattle.coin_book.specs.Watched.{PlainWatched, watches}
use Rattle.coin_book.proofs.WatchSteps.{history_is, seen_spends, spends_held, watched_is}
use Rattle.coin_book.proofs.watching.Watching.spends.Goals as goal

pub returns : goal.returns
returns c =
    let h = history_of c.self.inside.wallet.value c.self.inside.blocks.items c.self.inside.waiting.items in
    let o = c.args.coin.now in
    let seen : watches c.self.inside.watched o ≡ true = ap (λ (w : PlainWatched). watches w o) (watched_is c.self.view_is) ∙ c.requires in
    c.at.ensures
    ∙ sym (spends_held c.self.inside.watched (weight_for h.scripts) h.confirmed c.self.inside.ledger o c.self.invariant.chain)
    ∙ seen_spends c.self.inside.watched h.confirmed o seen
    ∙ ap (λ (h : History). spends_of h.confirmed o) (history_is c.self.view_is)
