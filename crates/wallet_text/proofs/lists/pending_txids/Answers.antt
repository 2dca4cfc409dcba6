use Rattle.tx_codec.specs.Txid.{txid_of}
use Rattle.wallet_text.proofs.Orders.{image_more}
use Rattle.wallet_text.proofs.lists.pending_txids.Goals as goal

pub loop-tx-preserved : goal.loop-tx-preserved
loop-tx-preserved c = rw c.in_ok-push.ensures.items (image_more txid_of c.args.pending.now c.loop-tx.tx-index c.tx-item.result c.txid.result _ c.loop-tx-test.true c.tx-item.is c.txid.ensures c.loop-tx.invariant)
