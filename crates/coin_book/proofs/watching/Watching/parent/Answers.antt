use Rattle.std.proofs.Common.{◌≡◌, ◌∙◌, sym, ap, Some, None, Option}
use Rattle.std.specs.Option.{option_or, option_copied}
use Rattle.tx_codec.specs.Transaction.{Transaction}
use Rattle.coin_book.specs.Coins.{parent_of}
use Rattle.coin_book.specs.History.{History}
use Rattle.coin_book.proofs.ShownCoins.{maker_in, parent_shown}
use Rattle.coin_book.proofs.WatchSteps.{history_is}
use Rattle.coin_book.proofs.watching.Watching.parent.Goals as goal

pub returns-in-Some : goal.returns-in-Some
returns-in-Some c =
    let found : Some c.in-Some.tx.now ≡ maker_in c.args.coin.now c.self.inside.ledger.coins.entries = sym (ap option_copied c.in-Some.is) ∙ c.maker_in.ensures in
    ap (λ (m : Option Transaction). option_or m (maker_in c.args.coin.now c.self.inside.pending.entries)) found
    ∙ parent_shown _ _ _ c.args.coin.now c.self.invariant.chain.coins c.self.invariant.waiting
    ∙ ap (λ (h : History). parent_of h c.args.coin.now) (history_is c.self.view_is)

pub returns-in-None : goal.returns-in-None
returns-in-None c =
    let none : None ≡ maker_in c.args.coin.now c.self.inside.ledger.coins.entries = sym (ap option_copied c.in-None.is) ∙ c.maker_in.ensures in
    c.maker_in-in-None.ensures
    ∙ ap (λ (m : Option Transaction). option_or m (maker_in c.args.coin.now c.self.inside.pending.entries)) none
    ∙ parent_shown _ _ _ c.args.coin.now c.self.invariant.chain.coins c.self.invariant.waiting
    ∙ ap (λ (h : History). parent_of h c.args.coin.now) (history_is c.self.view_is)
