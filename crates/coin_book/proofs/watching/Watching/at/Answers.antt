use Rattle.std.proofs.Common.{◌∙◌, ◌-◌, ap, arith}
use Rattle.std.specs.Prelude.{slice_get}
use Rattle.coin_book.specs.Coins.{coins_of}
use Rattle.coin_book.specs.History.{History}
use Rattle.coin_book.proofs.ShownCoins.{at_left, at_right, coins_in}
use Rattle.coin_book.proofs.WatchSteps.{history_is}
use Rattle.coin_book.proofs.watching.Watching.at.Goals as goal

pub returns-then-i-confirmed : goal.returns-then-i-confirmed
returns-then-i-confirmed c =
    let n = c.len-confirmed.ensures.len in
    let lt = c.if-i-confirmed.true in
    c.coin_in.ensures
    ∙ at_left _ _ _ c.args.i c.self.invariant.chain.coins c.self.invariant.waiting (omega arith)
    ∙ ap (λ (h : History). slice_get (coins_of h) c.args.i) (history_is c.self.view_is)

pub returns-else-i-confirmed : goal.returns-else-i-confirmed
returns-else-i-confirmed c =
    let n = c.len-confirmed.ensures.len in
    let ge = c.if-i-confirmed.false in
    c.coin_in-else-i-confirmed.ensures
    ∙ ap (λ j. slice_get (coins_in c.self.inside.pending.entries) (c.args.i - j)) n
    ∙ at_right _ _ _ c.args.i c.self.invariant.chain.coins c.self.invariant.waiting (omega arith)
    ∙ ap (λ (h : History). slice_get (coins_of h) c.args.i) (history_is c.self.view_is)
