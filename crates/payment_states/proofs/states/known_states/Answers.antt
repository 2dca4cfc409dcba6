use Rattle.std.proofs.Common.{◌∙◌, sym, ap, subst}
use Rattle.wallet_text.specs.PlainWallet.{PlainWallet}
use Rattle.payment_states.specs.Payments.{payments_in, payments_of}
use Rattle.payment_states.specs.ByPlace.{view_by}
use Rattle.payment_states.specs.PendingView.{view_of}
use Rattle.coin_book.specs.Asked.{AreWaiting}
use Rattle.payment_states.proofs.AskedLaws.{waiting_all}
use Rattle.payment_states.proofs.states.known_states.Goals as goal

pub returns : goal.returns
unfolding payments_of
returns c =
    c.in_ok-states.ensures
    ∙ (λ k. payments_in (view_by c.args.book.now.confirmed (c.deref.ensures.value k) (c.deref-2.ensures.value k)))
    ∙ ap (λ (w : PlainWallet). payments_in (view_of w c.args.book.now)) c.wallet.view_is

pub states_of-requires-clause-waiting : goal.states_of-requires-clause-waiting
states_of-requires-clause-waiting c =
    subst (AreWaiting c.args.book.now) (sym (c.deref.ensures.value ∙ ap (λ (w : PlainWallet). w.pending) c.wallet.view_is)) (waiting_all c.args.wallet.now c.args.book.now c.requires)
