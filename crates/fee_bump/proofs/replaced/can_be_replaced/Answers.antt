use Rattle.std.proofs.Common.{◌∙◌, ℕ, ◌<◌, List, length, sym, ap, subst, All}
use Rattle.std.specs.Prelude.{slice_index_or}
use Rattle.std.specs.List.{list_any}
use Rattle.tx_codec.specs.Transaction.{Transaction}
use Rattle.wallet_text.specs.PlainWallet.{PlainWallet}
use Rattle.payment_states.specs.PendingView.{no_tx, view_of}
use Rattle.fee_bump.specs.Faults.{can_be_replaced, has_signal}
use Rattle.fee_bump.proofs.GoesSteps.{above_within}
use Rattle.fee_bump.proofs.replaced.can_be_replaced.Goals as goal

pub any_signals-requires : goal.any_signals-requires
any_signals-requires c =
    let txs = c.deref.ensures.value ∙ ap (λ (w : PlainWallet). w.pending) c.wallet.view_is in
    subst (λ (ts : List Transaction). All (λ p. p < length ts) c.deref-2.result.now) (sym txs)
    (subst (λ (l : List ℕ). All (λ p. p < length c.args.wallet.now.pending) l) (sym (c.deref-2.ensures.value ∙ c.in_ok-places.ensures)) (above_within (view_of c.args.wallet.now c.args.book.now) c.args.place))

pub returns : goal.returns
unfolding can_be_replaced
returns c =
    let txs = c.deref.ensures.value ∙ ap (λ (w : PlainWallet). w.pending) c.wallet.view_is in
    c.any_signals.ensures ∙ (λ k. list_any (λ j. has_signal (slice_index_or (txs k) j no_tx)) ((c.deref-2.ensures.value ∙ c.in_ok-places.ensures) k))
