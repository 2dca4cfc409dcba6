use Rattle.tx_codec.specs.Txid.{txid_of}
use Rattle.wallet_text.specs.PlainWallet.{Earlier}
use Rattle.wallet_text.proofs.Orders.{image_more}
use Rattle.wallet_text.proofs.lists.earlier_txids.Goals as goal

pub loop-entry-preserved : goal.loop-entry-preserved
loop-entry-preserved c =
    rw c.in_ok-push.ensures.items (image_more (λ (e : Earlier). txid_of e.tx) c.args.earlier.now c.loop-entry.entry-index c.entry-item.result c.txid.result _ c.loop-entry-test.true c.entry-item.is c.txid.ensures c.loop-entry.invariant)
