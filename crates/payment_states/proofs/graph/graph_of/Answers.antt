use Rattle.std.proofs.Common.{◌≡◌, ◌∙◌, [], ◌∷◌, ◌++◌, get_or, sym, ap, subst, All, arith}
use Rattle.std.proofs.lemmas.List.{map_more}
use Rattle.tx_codec.specs.Transaction.{Transaction}
use Rattle.coin_book.specs.Asked.{IsAskedTxid}
use Rattle.payment_states.specs.ByPlace.{parents_by}
use Rattle.payment_states.specs.PendingView.{parents}
use Rattle.payment_states.proofs.AskedLaws.{asked_txids}
use Rattle.payment_states.proofs.GraphSteps.{parents_are}
use Rattle.payment_states.proofs.graph.graph_of.Goals as goal

pub loop-tx-preserved : goal.loop-tx-preserved
loop-tx-preserved c =
    let chain = c.args.book.now.confirmed in
    let ts = c.args.pending.now in
    let i = c.loop-tx.tx-index in
    let here : c.in_ok-parents_of.field-0 ≡ parents chain ts (get_or ts i c.tx-item.result) =
    c.in_ok-parents_of.ensures
    ∙ (λ k. parents_by chain (c.requires.txids k) ((c.deref.ensures.value ∙ ap (λ (t : Transaction). t.inputs) (c.tx.view_is ∙ c.tx-item.is)) k))
    ∙ parents_are chain ts (get_or ts i c.tx-item.result) in (
      c.in_ok-push.ensures.items
          ∙ (λ k. c.loop-tx.invariant.0 k ++ here k ∷ [])
          ∙ sym (map_more (parents chain ts) ts i c.tx-item.result c.loop-tx-test.true),
      omega (arith, c.in_ok-push.ensures.len),
    )

pub parents_of-requires : goal.parents_of-requires
parents_of-requires c = subst (All (IsAskedTxid c.args.book.now)) (sym c.requires.txids) (asked_txids c.args.book.now c.args.pending.now c.requires.waiting)
