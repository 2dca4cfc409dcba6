use Rattle.std.proofs.Common.{◌≡◌, ◌∙◌, sym, ap, Some, None, Option}
use Rattle.std.specs.Option.{option_or, option_copied}
use Rattle.coin_book.specs.AtOutpoint.{coin_under}
use Rattle.coin_book.specs.History.{History}
use Rattle.coin_book.specs.declared.coin.Coin.{Coin}
use Rattle.coin_book.proofs.FoundCoins.{coin_shown, held_in}
use Rattle.coin_book.proofs.WatchSteps.{history_is}
use Rattle.coin_book.proofs.watching.Watching.get.Goals as goal

pub returns-in-Some : goal.returns-in-Some
returns-in-Some c =
    let found : Some c.in-Some.found.now ≡ held_in c.args.coin.now c.self.inside.ledger.coins.entries = sym (ap option_copied c.in-Some.is) ∙ c.held_in.ensures in
    ap (λ (m : Option Coin). option_or m (held_in c.args.coin.now c.self.inside.pending.entries)) found
    ∙ coin_shown _ _ _ c.args.coin.now c.self.invariant.chain.coins c.self.invariant.waiting
    ∙ ap (λ (h : History). coin_under h c.args.coin.now) (history_is c.self.view_is)

pub returns-in-None : goal.returns-in-None
returns-in-None c =
    let none : None ≡ held_in c.args.coin.now c.self.inside.ledger.coins.entries = sym (ap option_copied c.in-None.is) ∙ c.held_in.ensures in
    c.held_in-in-None.ensures
    ∙ ap (λ (m : Option Coin). option_or m (held_in c.args.coin.now c.self.inside.pending.entries)) none
    ∙ coin_shown _ _ _ c.args.coin.now c.self.invariant.chain.coins c.self.invariant.waiting
    ∙ ap (λ (h : History). coin_under h c.args.coin.now) (history_is c.self.view_is)
