use Rattle.std.proofs.Common.{◌≡◌, ◌∙◌, List, map, length, sym, ap, subst}
use Rattle.tx_codec.specs.Transaction.{Transaction}
use Rattle.tx_codec.specs.Txid.{txid_of}
use Rattle.wallet_text.specs.PlainWallet.{PlainWallet}
use Rattle.payment_states.specs.Candidates.{is_pending, is_pending_state}
use Rattle.payment_states.specs.Graph.{IsInOrder, below}
use Rattle.payment_states.specs.PendingView.{graph, parents, view_of}
use Rattle.payment_states.specs.declared.state.Payment.{Payment}
use Rattle.payment_states.proofs.FactSteps.{ancestors_are, descendants_are, flag_is, opened, payments_count, pending_are}
use Rattle.payment_states.proofs.StateSteps.{names_are}
use Rattle.payment_states.proofs.Order.{order_from_rule}
use Rattle.coin_book.specs.Asked.{AreWaiting}
use Rattle.payment_states.proofs.AskedLaws.{waiting_all}
use Rattle.payment_states.proofs.pending_facts.facts_of.Goals as goal

pub graph_of-requires-clause-txids : goal.graph_of-requires-clause-txids
graph_of-requires-clause-txids c =
    let w = view_of c.args.wallet.now c.args.book.now in
    let txs : c.deref.result.now ≡ c.args.wallet.now.pending = c.deref.ensures.value ∙ ap (λ (w : PlainWallet). w.pending) c.wallet.view_is in
    c.txids.ensures ∙ ap (map (λ (p : Payment). p.txid)) (opened c.args.wallet.now c.args.book.now c.args.states.now c.requires.states) ∙ names_are w ∙ ap (map txid_of) (sym txs)

pub safe_of-requires-clause-pending : goal.safe_of-requires-clause-pending
safe_of-requires-clause-pending c =
    c.deref-3.ensures.value ∙ c.in_ok-pending.ensures.pending
    ∙ ap (map (λ (p : Payment). is_pending_state p.state)) (c.payments.ensures ∙ opened c.args.wallet.now c.args.book.now c.args.states.now c.requires.states)
    ∙ pending_are (view_of c.args.wallet.now c.args.book.now)

pub safe_of-requires-clause-order : goal.safe_of-requires-clause-order
safe_of-requires-clause-order c =
    let chain = c.args.book.now.confirmed in
    subst IsInOrder (sym (c.deref-2.ensures.value ∙ c.in_ok-parents.ensures.graph ∙ ap (λ (ts : List Transaction). map (parents chain ts) ts) c.deref.ensures.value)) (order_from_rule chain c.wallet.inside.pending.items c.wallet.invariant.parents)

pub numbers-requires-clause-order : goal.numbers-requires-clause-order
numbers-requires-clause-order c =
    let chain = c.args.book.now.confirmed in
    subst IsInOrder (sym (c.deref-4.ensures.value ∙ c.in_ok-parents.ensures.graph ∙ ap (λ (ts : List Transaction). map (parents chain ts) ts) c.deref.ensures.value)) (order_from_rule chain c.wallet.inside.pending.items c.wallet.invariant.parents)

pub numbers-requires-clause-counted : goal.numbers-requires-clause-counted
numbers-requires-clause-counted c =
    let w = view_of c.args.wallet.now c.args.book.now in
    let a = payments_count w in
    let b = ap (λ (ps : List Payment). length ps) (c.payments.ensures ∙ opened c.args.wallet.now c.args.book.now c.args.states.now c.requires.states) in
    let d = ap (λ (ts : List Transaction). length ts) c.deref.ensures.value in
    let e = ap (λ (w : PlainWallet). length w.pending) c.wallet.view_is in
    c.deref-5.ensures.len ∙ c.in_ok-pending.ensures.len ∙ b ∙ a ∙ sym e ∙ sym d ∙ sym c.in_ok-parents.ensures.len ∙ sym c.deref-4.ensures.len

pub returns-clause-pending : goal.returns-clause-pending
returns-clause-pending c =
    c.in_ok-pending.ensures.pending
    ∙ ap (map (λ (p : Payment). is_pending_state p.state)) (c.payments.ensures ∙ opened c.args.wallet.now c.args.book.now c.args.states.now c.requires.states)
    ∙ pending_are (view_of c.args.wallet.now c.args.book.now)

pub returns-clause-ancestors : goal.returns-clause-ancestors
returns-clause-ancestors c i lt on =
    let w = view_of c.args.wallet.now c.args.book.now in
    let chain = c.args.book.now.confirmed in
    let g : c.deref-4.result.now ≡ graph w = c.deref-4.ensures.value ∙ c.in_ok-parents.ensures.graph ∙ ap (λ (ts : List Transaction). map (parents chain ts) ts) (c.deref.ensures.value ∙ ap (λ (w : PlainWallet). w.pending) c.wallet.view_is) in
    let flags : c.deref-5.result.now ≡ map (is_pending w) (below (length w.pending)) =
    c.deref-5.ensures.value ∙ c.in_ok-pending.ensures.pending
    ∙ ap (map (λ (p : Payment). is_pending_state p.state)) (c.payments.ensures ∙ opened c.args.wallet.now c.args.book.now c.args.states.now c.requires.states) ∙ pending_are w in
    c.in_ok-counts.ensures.ancestors i (flag_is w c.deref-5.result.now flags i lt ∙ on) ∙ ancestors_are w c.deref-4.result.now c.deref-5.result.now g flags i

pub returns-clause-descendants : goal.returns-clause-descendants
returns-clause-descendants c i =
    let w = view_of c.args.wallet.now c.args.book.now in
    let chain = c.args.book.now.confirmed in
    let g : c.deref-4.result.now ≡ graph w = c.deref-4.ensures.value ∙ c.in_ok-parents.ensures.graph ∙ ap (λ (ts : List Transaction). map (parents chain ts) ts) (c.deref.ensures.value ∙ ap (λ (w : PlainWallet). w.pending) c.wallet.view_is) in
    let flags : c.deref-5.result.now ≡ map (is_pending w) (below (length w.pending)) =
    c.deref-5.ensures.value ∙ c.in_ok-pending.ensures.pending
    ∙ ap (map (λ (p : Payment). is_pending_state p.state)) (c.payments.ensures ∙ opened c.args.wallet.now c.args.book.now c.args.states.now c.requires.states) ∙ pending_are w in
    c.in_ok-counts.ensures.descendants i ∙ descendants_are w c.deref-4.result.now c.deref-5.result.now g flags i

pub graph_of-requires-clause-waiting : goal.graph_of-requires-clause-waiting
graph_of-requires-clause-waiting c =
    subst (AreWaiting c.args.book.now) (sym (c.deref.ensures.value ∙ ap (λ (w : PlainWallet). w.pending) c.wallet.view_is)) (waiting_all c.args.wallet.now c.args.book.now c.requires.book)
