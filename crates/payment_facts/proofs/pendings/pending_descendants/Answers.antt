use Rattle.std.proofs.Common.{◌≡◌, ◌∙◌, List, length, map, sym, ap, subst}
use Rattle.tx_codec.specs.Transaction.{Transaction}
use Rattle.tx_codec.specs.Txid.{txid_of}
use Rattle.wallet_text.specs.PlainWallet.{PlainWallet}
use Rattle.payment_states.specs.Candidates.{is_pending, is_pending_state}
use Rattle.payment_states.specs.Graph.{IsInOrder, below}
use Rattle.payment_states.specs.PendingView.{graph, parents, view_of}
use Rattle.payment_states.specs.declared.state.Payment.{Payment}
use Rattle.payment_states.proofs.FactSteps.{opened, pending_are}
use Rattle.payment_states.proofs.StateSteps.{names_are}
use Rattle.payment_facts.proofs.PendingSteps.{below_are}
use Rattle.payment_states.proofs.Order.{order_from_rule}
use Rattle.coin_book.specs.Asked.{AreWaiting}
use Rattle.payment_states.proofs.AskedLaws.{waiting_all}
use Rattle.payment_facts.proofs.pendings.pending_descendants.Goals as goal

pub graph_of-requires-clause-txids : goal.graph_of-requires-clause-txids
graph_of-requires-clause-txids c =
    let w = view_of c.args.wallet.now c.args.book.now in
    let txs : c.deref.result.now ≡ c.args.wallet.now.pending = c.deref.ensures.value ∙ ap (λ (w : PlainWallet). w.pending) c.wallet.view_is in
    c.txids.ensures ∙ ap (map (λ (p : Payment). p.txid)) (opened c.args.wallet.now c.args.book.now c.args.states.now c.requires.states) ∙ names_are w ∙ ap (map txid_of) (sym txs)

pub reaching-requires : goal.reaching-requires
reaching-requires c =
    let chain = c.args.book.now.confirmed in
    subst IsInOrder (sym (c.deref-2.ensures.value ∙ c.in_ok-parents.ensures.graph ∙ ap (λ (ts : List Transaction). map (parents chain ts) ts) c.deref.ensures.value)) (order_from_rule chain c.wallet.inside.pending.items c.wallet.invariant.parents)

pub returns : goal.returns
returns c =
    let w = view_of c.args.wallet.now c.args.book.now in
    let chain = c.args.book.now.confirmed in
    let g : c.deref-2.result.now ≡ graph w = c.deref-2.ensures.value ∙ c.in_ok-parents.ensures.graph ∙ ap (λ (ts : List Transaction). map (parents chain ts) ts) (c.deref.ensures.value ∙ ap (λ (w : PlainWallet). w.pending) c.wallet.view_is) in
    let flags : c.deref-4.result.now ≡ map (is_pending w) (below (length w.pending)) =
    c.deref-4.ensures.value ∙ c.in_ok-pending.ensures.pending
    ∙ ap (map (λ (p : Payment). is_pending_state p.state)) (c.payments.ensures ∙ opened c.args.wallet.now c.args.book.now c.args.states.now c.requires.states) ∙ pending_are w in
    c.in_ok-places.ensures ∙ below_are w c.args.place c.len.result c.deref-2.result.now c.deref-3.result.now c.deref-4.result.now g (c.len.ensures ∙ sym c.deref-2.ensures.len) flags (c.deref-3.ensures.value ∙ c.in_ok-marks.ensures.marks)

pub graph_of-requires-clause-waiting : goal.graph_of-requires-clause-waiting
graph_of-requires-clause-waiting c =
    subst (AreWaiting c.args.book.now) (sym (c.deref.ensures.value ∙ ap (λ (w : PlainWallet). w.pending) c.wallet.view_is)) (waiting_all c.args.wallet.now c.args.book.now c.requires.book)
