use Rattle.std.proofs.Common.{◌∙◌, ◌∷◌, [], ap}
use Rattle.std.specs.Option.{option_to_list}
use Rattle.coin_book.specs.Invariant.{weigher}
use Rattle.coin_book.proofs.ShortSteps.{first_points, no_points}
use Rattle.coin_book.proofs.lent.first_point.Goals as goal

pub returns-in_err-index : goal.returns-in_err-index
returns-in_err-index c = λ height.
    ap (λ o. option_to_list o) c.from_residual.ensures ∙ no_points (weigher c.args.weights.now.entries) height c.args.tx.now (c.in_err-index.ensures height)

pub returns : goal.returns
returns c = λ height.
    (λ k. record { txid = c.requires k; index = c.in_ok-index.index } ∷ [])
    ∙ first_points (weigher c.args.weights.now.entries) height c.args.tx.now c.in_ok-index.index (c.in_ok-index.ensures height)
