use Rattle.std.proofs.Common.{◌∙◌, [], ◌∷◌, ◌++◌, sym, ap}
use Rattle.std.proofs.lemmas.List.{map_more}
use Rattle.tx_codec.specs.Txid.{txid_of}
use Rattle.fee_bump.proofs.replaced.txids.Goals as goal

pub loop-tx-preserved : goal.loop-tx-preserved
loop-tx-preserved c =
    c.in_ok-push.ensures.items
    ∙ (λ k. c.loop-tx.invariant k ++ (c.txid.ensures ∙ ap txid_of c.tx-item.is) k ∷ [])
    ∙ sym (map_more txid_of c.args.txs.now c.loop-tx.tx-index c.tx-item.result c.loop-tx-test.true)
