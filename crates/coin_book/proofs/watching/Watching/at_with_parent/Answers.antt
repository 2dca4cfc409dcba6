use Rattle.std.proofs.Common.{◌∙◌, ◌-◌, ap, sym, arith, Option}
use Rattle.std.specs.Prelude.{option_map, slice_get}
use Rattle.std.specs.Option.{option_or}
use Rattle.tx_codec.specs.Transaction.{Transaction}
use Rattle.coin_book.specs.Coins.{coins_of, parent_of}
use Rattle.coin_book.specs.History.{History}
use Rattle.coin_book.proofs.ShownCoins.{at_left, at_right, coins_in, maker_in, parent_shown}
use Rattle.coin_book.proofs.WatchSteps.{history_is}
use Rattle.coin_book.proofs.watching.Watching.at_with_parent.Goals as goal

pub returns-in_err-coin-2-clause-coin : goal.returns-in_err-coin-2-clause-coin
returns-in_err-coin-2-clause-coin c =
    let n = c.len-confirmed.ensures.len in
    let ge = c.if-i-confirmed.false in
    ap (option_map (λ m. m.0.now)) c.from_residual-in_err-coin-2.ensures
    ∙ c.in_err-coin-2.ensures
    ∙ ap (λ j. slice_get (coins_in c.self.inside.pending.entries) (c.args.i - j)) n
    ∙ at_right _ _ _ c.args.i c.self.invariant.chain.coins c.self.invariant.waiting (omega arith)
    ∙ ap (λ (h : History). slice_get (coins_of h) c.args.i) (history_is c.self.view_is)

pub returns-in_ok-coin-clause-coin : goal.returns-in_ok-coin-clause-coin
returns-in_ok-coin-clause-coin c =
    let n = c.len-confirmed.ensures.len in
    let lt = c.if-i-confirmed.true in
    c.in_ok-coin.ensures.coin
    ∙ at_left _ _ _ c.args.i c.self.invariant.chain.coins c.self.invariant.waiting (omega arith)
    ∙ ap (λ (h : History). slice_get (coins_of h) c.args.i) (history_is c.self.view_is)

pub returns-in_ok-coin-clause-parent : goal.returns-in_ok-coin-clause-parent
returns-in_ok-coin-clause-parent c =
    let o = c.in_ok-coin.coin.now.coin in
    ap (λ (m : Option Transaction). option_or m (maker_in o c.self.inside.pending.entries)) (sym c.in_ok-coin.ensures.maker)
    ∙ parent_shown _ _ _ o c.self.invariant.chain.coins c.self.invariant.waiting
    ∙ ap (λ (h : History). parent_of h o) (history_is c.self.view_is)

pub returns-in_ok-coin-2-clause-coin : goal.returns-in_ok-coin-2-clause-coin
returns-in_ok-coin-2-clause-coin c =
    let n = c.len-confirmed.ensures.len in
    let ge = c.if-i-confirmed.false in
    c.in_ok-coin-2.ensures
    ∙ ap (λ j. slice_get (coins_in c.self.inside.pending.entries) (c.args.i - j)) n
    ∙ at_right _ _ _ c.args.i c.self.invariant.chain.coins c.self.invariant.waiting (omega arith)
    ∙ ap (λ (h : History). slice_get (coins_of h) c.args.i) (history_is c.self.view_is)
