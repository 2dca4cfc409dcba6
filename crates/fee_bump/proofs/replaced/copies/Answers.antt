use Rattle.std.proofs.Common.{◌∙◌, ◌++◌, ℕ, [], ◌∷◌, get_or, sym}
use Rattle.std.proofs.lemmas.List.{get_or_default, map_more}
use Rattle.tx_codec.specs.Transaction.{Transaction}
use Rattle.payment_states.specs.PendingView.{no_tx}
use Rattle.fee_bump.proofs.replaced.copies.Goals as goal

pub bounds-txs-place : goal.bounds-txs-place
bounds-txs-place c = c.requires c.loop-place.place-index 0 c.loop-place-test.true

pub loop-place-preserved : goal.loop-place-preserved
loop-place-preserved c =
    let i = c.loop-place.place-index in
    let xs = c.args.places.now in
    let txs = c.args.txs.now in
    let lt = c.loop-place-test.true in
    let at : ℕ → Transaction = λ j. get_or txs j no_tx in
    let here = c.in_ok-copy.ensures ∙ c.index-txs-place.is ∙ get_or_default txs (get_or xs i 0) c.index-txs-place.result no_tx (c.requires i 0 lt) in
    c.in_ok-push.ensures.items
    ∙ (λ k. c.loop-place.invariant k ++ here k ∷ [])
    ∙ sym (map_more at xs i 0 lt)
