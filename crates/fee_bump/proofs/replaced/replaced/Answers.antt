use Rattle.std.proofs.Common.{◌∙◌, ℕ, ◌<◌, List, length, map, sym, ap, subst, All}
use Rattle.std.specs.Prelude.{slice_index_or}
use Rattle.tx_codec.specs.Transaction.{Transaction}
use Rattle.wallet_text.specs.PlainWallet.{PlainWallet}
use Rattle.wallet_text.specs.WalletRules.{AreDistinct, IsWallet}
use Rattle.payment_states.specs.PendingView.{no_tx, view_of}
use Rattle.fee_bump.specs.Bump.{replaced_at}
use Rattle.fee_bump.proofs.GoesSteps.{below_places, replaced_apart}
use Rattle.fee_bump.proofs.replaced.replaced.Goals as goal

pub copies-requires : goal.copies-requires
copies-requires c =
    let txs = c.deref.ensures.value ∙ ap (λ (w : PlainWallet). w.pending) c.wallet.view_is in
    subst (λ (ts : List Transaction). All (λ p. p < length ts) c.deref-2.result.now) (sym txs)
    (subst (λ (l : List ℕ). All (λ p. p < length c.args.wallet.now.pending) l) (sym (c.deref-2.ensures.value ∙ c.in_ok-places.ensures)) (below_places (view_of c.args.wallet.now c.args.book.now) c.args.place))

pub returns-clause-value : goal.returns-clause-value
unfolding replaced_at
returns-clause-value c =
    let txs = c.deref.ensures.value ∙ ap (λ (w : PlainWallet). w.pending) c.wallet.view_is in
    c.in_ok-replaced.ensures ∙ (λ k. map (λ j. slice_index_or (txs k) j no_tx) ((c.deref-2.ensures.value ∙ c.in_ok-places.ensures) k))

pub returns-clause-distinct : goal.returns-clause-distinct
returns-clause-distinct c =
    subst AreDistinct (sym (returns-clause-value c))
    (replaced_apart (view_of c.args.wallet.now c.args.book.now) c.args.place (subst IsWallet c.wallet.view_is c.wallet.invariant).pending_distinct)
