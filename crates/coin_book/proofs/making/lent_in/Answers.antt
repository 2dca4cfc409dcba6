use Rattle.std.proofs.Common.{◌∙◌, ap, length, map}
use Rattle.tx_codec.specs.Transaction.{Transaction}
use Rattle.coin_book.specs.Coins.{made_in}
use Rattle.coin_book.specs.Invariant.{weigher}
use Rattle.coin_book.proofs.CoinSteps.{by_maker, with_maker}
use Rattle.coin_book.proofs.making.lent_in.Goals as goal

pub returns-clause-made : goal.returns-clause-made
unfolding made_in
returns-clause-made c =
    c.in_ok-held.ensures
    ∙ ap (λ (t : Transaction). map (by_maker t) c.in_ok-coins.coins.items) (c.in_ok-maker.ensures.ok ∙ c.in_ok-copy.ensures)
    ∙ with_maker (weigher c.args.weights.now.entries) c.args.height c.args.tx.now (length c.args.tx.now.outputs) c.in_ok-coins.coins.items c.in_ok-coins.ensures.made
