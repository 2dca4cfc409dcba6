use Rattle.std.proofs.Common.{◌∙◌, ◌∷◌, [], None, ap, arith}
use Rattle.std.specs.Option.{option_to_list}
use Rattle.coin_book.specs.Invariant.{weigher}
use Rattle.coin_book.proofs.ShortSteps.{first_points, no_points, place_fits}
use Rattle.coin_book.proofs.making.first_point.Goals as goal

pub returns-in_err-place : goal.returns-in_err-place
returns-in_err-place c = λ height.
    ap (λ o. option_to_list o) c.from_residual.ensures ∙ no_points (weigher c.args.weights.now.entries) height c.args.tx.now (c.in_err-place.ensures height)

pub overflow_cast-result : goal.overflow_cast-result
overflow_cast-result c =
    let fits = place_fits (weigher c.args.weights.now.entries) None c.args.tx.now c.in_ok-place.place (c.in_ok-place.ensures None).2 in
    omega (arith, fits)

pub returns : goal.returns
returns c = λ height.
    (λ k. record { txid = c.requires k; index = c.in_ok-place.place } ∷ [])
    ∙ first_points (weigher c.args.weights.now.entries) height c.args.tx.now c.in_ok-place.place (c.in_ok-place.ensures height)
