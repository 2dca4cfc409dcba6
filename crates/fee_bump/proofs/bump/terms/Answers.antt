use Rattle.std.proofs.Common.{◌≡◌, ◌≤◌, ◌<◌, ◌∙◌, List, length, sym, ap, subst}
use Rattle.std.specs.Prelude.{slice_index_or, sum_by}
use Rattle.tx_codec.specs.Transaction.{Transaction}
use Rattle.tx_codec.specs.declared.tx.TxOut.{TxOut}
use Rattle.wallet_text.specs.PlainWallet.{PlainWallet}
use Rattle.payment_states.specs.PendingView.{no_tx, tx_at, view_of}
use Rattle.known_fees.specs.Worth.{fee_in}
use Rattle.fee_bump.proofs.bump.terms.Goals as goal

pub at-payment-requires : goal.at-payment-requires
at-payment-requires c =
    let pending : c.deref.result.now ≡ c.args.wallet.now.pending = c.deref.ensures.value ∙ ap (λ (w : PlainWallet). w.pending) c.wallet.view_is in
    subst (λ (ts : List Transaction). c.args.place < length ts) (sym pending) c.requires.place

pub fee_in-requires-clause-money : goal.fee_in-requires-clause-money
fee_in-requires-clause-money c =
    let pending : c.deref.result.now ≡ c.args.wallet.now.pending = c.deref.ensures.value ∙ ap (λ (w : PlainWallet). w.pending) c.wallet.view_is in
    let payment : c.at-payment.result.now ≡ tx_at (view_of c.args.wallet.now c.args.book.now) c.args.place = c.at-payment.ensures ∙ ap (λ (ts : List Transaction). slice_index_or ts c.args.place no_tx) pending in
    subst (λ (t : Transaction). sum_by (λ (x : TxOut). x.value) t.outputs ≤ 2_100_000_000_000_000) (sym payment) c.requires.payment

pub terms_for-requires-clause-old_fee : goal.terms_for-requires-clause-old_fee
terms_for-requires-clause-old_fee c =
    let pending : c.deref.result.now ≡ c.args.wallet.now.pending = c.deref.ensures.value ∙ ap (λ (w : PlainWallet). w.pending) c.wallet.view_is in
    let payment : c.at-payment.result.now ≡ tx_at (view_of c.args.wallet.now c.args.book.now) c.args.place = c.at-payment.ensures ∙ ap (λ (ts : List Transaction). slice_index_or ts c.args.place no_tx) pending in
    c.in_ok-old_fee.ensures.value ∙ ap (fee_in c.args.book.now c.args.txs.now) payment
