use Rattle.std.proofs.Common.{◌≡◌, ◌∙◌, sym, ap, true}
use Rattle.coin_book.specs.Coins.{weight_for}
use Rattle.coin_book.specs.History.{History}
use Rattle.coin_book.specs.Invariant.{history_of}
use Rattle.coin_book.specs.Spends.{height_of}
use Rattle.coin_book.specs.Watched.{PlainWatched, watches_txid}
use Rattle.coin_book.proofs.WatchSteps.{height_at, history_is, watched_is}
use Rattle.coin_book.proofs.watching.Watching.height.Goals as goal

pub returns : goal.returns
returns c =
    let h = history_of c.self.inside.wallet.value c.self.inside.blocks.items c.self.inside.waiting.items in
    let t = c.args.txid.now in
    let seen : watches_txid c.self.inside.watched t ≡ true = ap (λ (w : PlainWatched). watches_txid w t) (watched_is c.self.view_is) ∙ c.requires in
    c.copied.ensures
    ∙ c.get.ensures.value
    ∙ sym (height_at c.self.inside.watched (weight_for h.scripts) h.confirmed c.self.inside.ledger t c.self.invariant.chain seen)
    ∙ ap (λ (h : History). height_of h.confirmed t) (history_is c.self.view_is)
