use Rattle.std.proofs.Common.{◌∙◌, ◌++◌, ◌∷◌, [], List, take, ap, subst, sym}
use Rattle.std.proofs.lemmas.List.{take_more}
use Rattle.tx_codec.specs.Transaction.{Transaction}
use Rattle.desk_chain.specs.PendingTxids.{AreTxidsOf}
use Rattle.desk_chain.proofs.TxidLaws.{none_kept}
use Rattle.desk_chain.proofs.pending_txids.PendingTxids.of.Goals as goal

pub loop-tx-init : goal.loop-tx-init
loop-tx-init c = none_kept _ c.new-txids.ensures.empty c.new-parents.ensures.empty

pub loop-tx-preserved : goal.loop-tx-preserved
loop-tx-preserved c =
    let xs = c.args.pending.now in
    let i = c.loop-tx.tx-index in
    let more = take_more xs i c.tx-item.result c.loop-tx-test.true ∙ ap (λ (t : Transaction). take i xs ++ t ∷ []) (sym c.tx-item.is) in
    subst (λ (ts : List Transaction). AreTxidsOf ts c.add.new.self) (sym more) (c.in_ok-add.ensures.added (take i xs) c.loop-tx.invariant)
