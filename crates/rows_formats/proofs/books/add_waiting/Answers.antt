use Rattle.std.proofs.Common.{◌≡◌, ◌≢◌, ◌∙◌, ◌<◌, List, length, get_or, All, ap, subst, sym}
use Rattle.tx_codec.specs.Transaction.{Transaction}
use Rattle.tx_codec.specs.Txid.{txid_of}
use Rattle.wallet_text.specs.PlainWallet.{PlainWallet}
use Rattle.wallet_text.specs.WalletRules.{AreDistinct}
use Rattle.rows_formats.proofs.Others.{others_before}
use Rattle.rows_formats.proofs.books.add_waiting.Goals as goal

pub add_pending-requires-clause-fresh : goal.add_pending-requires-clause-fresh
add_pending-requires-clause-fresh c =
    let same : c.deref-tx-items.result.now ≡ c.args.wallet.now.pending = c.deref-tx-items.ensures.value ∙ ap (λ (w : PlainWallet). w.pending) c.wallet.view_is in
    subst (All (λ (s : Transaction). txid_of s ≢ txid_of c.tx-item.result)) (sym c.loop-tx.invariant)
    (others_before c.args.wallet.now.pending c.loop-tx.tx-index c.tx-item.result
    (subst (λ (w : PlainWallet). AreDistinct w.pending) c.wallet.view_is c.wallet.invariant.pending_distinct)
    (subst (λ (ts : List Transaction). c.loop-tx.tx-index < length ts) same c.loop-tx-test.true)
    (subst (λ (ts : List Transaction). c.tx-item.result ≡ get_or ts c.loop-tx.tx-index c.tx-item.result) same c.tx-item.is))
