use Rattle.std.proofs.Common.{◌≡◌, ◌∙◌, List, ℕ, ◌<◌, Bool, true, length, map, get_or, sym, ap, subst}
use Rattle.tx_codec.specs.Transaction.{Transaction}
use Rattle.tx_codec.specs.Txid.{txid_of}
use Rattle.wallet_text.specs.PlainWallet.{PlainWallet}
use Rattle.payment_states.specs.Candidates.{is_pending}
use Rattle.payment_states.specs.Graph.{IsInOrder}
use Rattle.payment_states.specs.PendingView.{graph, parents, view_of}
use Rattle.payment_states.specs.declared.state.Payment.{Payment}
use Rattle.payment_states.proofs.Below.{length-map_below}
use Rattle.payment_states.proofs.FactSteps.{ancestors_are, flag_is, graph_count, opened}
use Rattle.payment_states.proofs.StateSteps.{names_are}
use Rattle.payment_facts.proofs.AnySteps.{on_err}
use Rattle.payment_states.proofs.Order.{order_from_rule}
use Rattle.coin_book.specs.Asked.{AreWaiting}
use Rattle.payment_states.proofs.AskedLaws.{waiting_all}
use Rattle.payment_facts.proofs.any_coin.ancestors_at.Goals as goal

pub returns-then-flag_at-clause-exact : goal.returns-then-flag_at-clause-exact
returns-then-flag_at-clause-exact c =
    let w = view_of c.args.wallet.now c.args.book.now in
    let i = c.args.place in
    let on : is_pending w i ≡ true = sym (flag_is w c.deref.result.now (c.deref.ensures.value ∙ c.requires.facts.pending) i c.requires.place) ∙ sym c.flag_at.ensures ∙ c.if-flag_at.true in
    c.number_at.ensures ∙ ap (λ (l : List ℕ). get_or l i 0) c.deref-then-flag_at.ensures.value ∙ c.requires.facts.ancestors i c.requires.place on

pub graph_of-requires-clause-txids : goal.graph_of-requires-clause-txids
graph_of-requires-clause-txids c =
    let w = view_of c.args.wallet.now c.args.book.now in
    let txs : c.deref-2.result.now ≡ c.args.wallet.now.pending = c.deref-2.ensures.value ∙ ap (λ (w : PlainWallet). w.pending) c.wallet.view_is in
    c.txids.ensures ∙ ap (map (λ (p : Payment). p.txid)) (opened c.args.wallet.now c.args.book.now c.args.states.now c.requires.states) ∙ names_are w ∙ ap (map txid_of) (sym txs)

pub count_at-requires-clause-order : goal.count_at-requires-clause-order
count_at-requires-clause-order c =
    let chain = c.args.book.now.confirmed in
    subst IsInOrder (sym (c.deref-3.ensures.value ∙ c.in_ok-parents.ensures.graph ∙ ap (λ (ts : List Transaction). map (parents chain ts) ts) c.deref-2.ensures.value)) (order_from_rule chain c.wallet.inside.pending.items c.wallet.invariant.parents)

pub count_at-requires-clause-place : goal.count_at-requires-clause-place
count_at-requires-clause-place c =
    let w = view_of c.args.wallet.now c.args.book.now in
    let chain = c.args.book.now.confirmed in
    let g : c.deref-3.result.now ≡ graph w = c.deref-3.ensures.value ∙ c.in_ok-parents.ensures.graph ∙ ap (λ (ts : List Transaction). map (parents chain ts) ts) (c.deref-2.ensures.value ∙ ap (λ (w : PlainWallet). w.pending) c.wallet.view_is) in
    subst (λ n. c.args.place < n) (sym (ap (λ (l : List (List ℕ)). length l) g ∙ graph_count w)) c.requires.place

pub count_at-requires-clause-counted : goal.count_at-requires-clause-counted
count_at-requires-clause-counted c =
    let w = view_of c.args.wallet.now c.args.book.now in
    let chain = c.args.book.now.confirmed in
    let g : c.deref-3.result.now ≡ graph w = c.deref-3.ensures.value ∙ c.in_ok-parents.ensures.graph ∙ ap (λ (ts : List Transaction). map (parents chain ts) ts) (c.deref-2.ensures.value ∙ ap (λ (w : PlainWallet). w.pending) c.wallet.view_is) in
    ap (λ (l : List Bool). length l) (c.deref-4.ensures.value ∙ c.requires.facts.pending) ∙ length-map_below (is_pending w) (length c.args.wallet.now.pending) ∙ sym (ap (λ (l : List (List ℕ)). length l) g ∙ graph_count w)

pub returns-clause-exact : goal.returns-clause-exact
returns-clause-exact c =
    let w = view_of c.args.wallet.now c.args.book.now in
    let chain = c.args.book.now.confirmed in
    let g : c.deref-3.result.now ≡ graph w = c.deref-3.ensures.value ∙ c.in_ok-parents.ensures.graph ∙ ap (λ (ts : List Transaction). map (parents chain ts) ts) (c.deref-2.ensures.value ∙ ap (λ (w : PlainWallet). w.pending) c.wallet.view_is) in
    c.in_ok-count.ensures ∙ ancestors_are w c.deref-3.result.now c.deref-4.result.now g (c.deref-4.ensures.value ∙ c.requires.facts.pending) c.args.place

pub returns-in_err-parents-clause-short : goal.returns-in_err-parents-clause-short
returns-in_err-parents-clause-short c =
    let w = view_of c.args.wallet.now c.args.book.now in
    on_err c.from_residual.result (sym (flag_is w c.deref.result.now (c.deref.ensures.value ∙ c.requires.facts.pending) c.args.place c.requires.place) ∙ sym c.flag_at.ensures ∙ c.if-flag_at.false)

pub returns-in_err-count-clause-short : goal.returns-in_err-count-clause-short
returns-in_err-count-clause-short c =
    let w = view_of c.args.wallet.now c.args.book.now in
    on_err c.from_residual-in_err-count.result (sym (flag_is w c.deref.result.now (c.deref.ensures.value ∙ c.requires.facts.pending) c.args.place c.requires.place) ∙ sym c.flag_at.ensures ∙ c.if-flag_at.false)

pub graph_of-requires-clause-waiting : goal.graph_of-requires-clause-waiting
graph_of-requires-clause-waiting c =
    subst (AreWaiting c.args.book.now) (sym (c.deref-2.ensures.value ∙ ap (λ (w : PlainWallet). w.pending) c.wallet.view_is)) (waiting_all c.args.wallet.now c.args.book.now c.requires.book)
