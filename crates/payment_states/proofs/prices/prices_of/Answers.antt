use Rattle.std.proofs.Common.{◌≡◌, ◌∙◌, ℕ, false, cond, Bool, List, map, length, get_or, sym, ap, subst, arith}
use Rattle.tx_codec.specs.Transaction.{Transaction}
use Rattle.tx_codec.specs.Txid.{txid_of}
use Rattle.wallet_text.specs.PlainWallet.{PlainWallet}
use Rattle.known_fees.specs.Missing.{missing_of}
use Rattle.payment_states.specs.Candidates.{is_pending}
use Rattle.payment_states.specs.Graph.{IsInOrder, below}
use Rattle.payment_states.specs.PendingView.{graph, no_tx, parents, view_of}
use Rattle.payment_states.specs.declared.state.Payment.{Payment}
use Rattle.payment_states.proofs.Below.{length-map_below}
use Rattle.payment_states.proofs.FactSteps.{opened}
use Rattle.payment_states.proofs.Order.{order_from_rule}
use Rattle.payment_states.proofs.PriceSteps.{prices_are}
use Rattle.payment_states.proofs.StateSteps.{names_are}
use Rattle.coin_book.specs.Asked.{AreWaiting}
use Rattle.payment_states.proofs.AskedLaws.{waiting_all}
use Rattle.payment_states.proofs.prices.prices_of.Goals as goal

pub graph_of-requires-clause-txids : goal.graph_of-requires-clause-txids
graph_of-requires-clause-txids c =
    let w = view_of c.args.wallet.now c.args.book.now in
    let txs : c.deref.result.now ≡ c.args.wallet.now.pending = c.deref.ensures.value ∙ ap (λ (w : PlainWallet). w.pending) c.wallet.view_is in
    c.txids-txids.ensures ∙ ap (map (λ (p : Payment). p.txid)) (opened c.args.wallet.now c.args.book.now c.args.states.now c.requires.states) ∙ names_are w ∙ ap (map txid_of) (sym txs)

pub shares_of-requires-clause-txids : goal.shares_of-requires-clause-txids
shares_of-requires-clause-txids c =
    let w = view_of c.args.wallet.now c.args.book.now in
    let txs : c.deref-2.result.now ≡ c.args.wallet.now.pending = c.deref-2.ensures.value ∙ ap (λ (w : PlainWallet). w.pending) c.wallet.view_is in
    c.txids-txids.ensures ∙ ap (map (λ (p : Payment). p.txid)) (opened c.args.wallet.now c.args.book.now c.args.states.now c.requires.states) ∙ names_are w ∙ ap (map txid_of) (sym txs)

pub shares_of-requires-clause-flags : goal.shares_of-requires-clause-flags
shares_of-requires-clause-flags c =
    let w = view_of c.args.wallet.now c.args.book.now in
    let txs : c.deref-2.result.now ≡ c.args.wallet.now.pending = c.deref-2.ensures.value ∙ ap (λ (w : PlainWallet). w.pending) c.wallet.view_is in
    ap (λ (l : List Bool). length l) c.requires.pending ∙ length-map_below (is_pending w) (length c.args.wallet.now.pending) ∙ sym (ap (λ (ts : List Transaction). length ts) txs)

pub sums_of-requires-clause-order : goal.sums_of-requires-clause-order
sums_of-requires-clause-order c =
    let chain = c.args.book.now.confirmed in
    subst IsInOrder (sym (c.deref-3.ensures.value ∙ c.in_ok-parents.ensures.graph ∙ ap (λ (ts : List Transaction). map (parents chain ts) ts) c.deref.ensures.value)) (order_from_rule chain c.wallet.inside.pending.items c.wallet.invariant.parents)

pub sums_of-requires-clause-shares : goal.sums_of-requires-clause-shares
sums_of-requires-clause-shares c =
    let txs = c.deref-2.result.now in
    let f : ℕ → ℕ = λ i. cond (get_or c.args.pending.now i false) (missing_of c.args.rate c.args.book.now txs (get_or txs i no_tx)) 0 in
    let shares = ap (λ (l : List ℕ). length l) (c.deref-4.ensures.value ∙ c.in_ok-shares.ensures.shares) ∙ length-map_below f (length txs) in
    let same : c.deref-2.result.now ≡ c.deref.result.now = c.deref-2.ensures.value ∙ sym c.deref.ensures.value in
    shares ∙ ap (λ (ts : List Transaction). length ts) same ∙ sym (c.deref-3.ensures.len ∙ c.in_ok-parents.ensures.len)

pub returns : goal.returns
returns c =
    let wallet = c.args.wallet.now in
    let h = c.args.book.now in
    let chain = h.confirmed in
    let one : c.deref.result.now ≡ wallet.pending = c.deref.ensures.value ∙ ap (λ (w : PlainWallet). w.pending) c.wallet.view_is in
    let two : c.deref-2.result.now ≡ wallet.pending = c.deref-2.ensures.value ∙ ap (λ (w : PlainWallet). w.pending) c.wallet.view_is in
    let g : c.deref-3.result.now ≡ graph (view_of wallet h) = c.deref-3.ensures.value ∙ c.in_ok-parents.ensures.graph ∙ ap (λ (ts : List Transaction). map (parents chain ts) ts) one in
    let shares =
    c.deref-4.ensures.value ∙ c.in_ok-shares.ensures.shares
    ∙ ap (λ (ts : List Transaction). map (λ i. cond (get_or c.args.pending.now i false) (missing_of c.args.rate h ts (get_or ts i no_tx)) 0) (below (length ts))) two in
    c.in_ok-sums.ensures ∙ prices_are wallet h c.args.rate c.args.pending.now c.requires.pending c.deref-3.result.now c.deref-4.result.now g shares

pub graph_of-requires-clause-waiting : goal.graph_of-requires-clause-waiting
graph_of-requires-clause-waiting c =
    subst (AreWaiting c.args.book.now) (sym (c.deref.ensures.value ∙ ap (λ (w : PlainWallet). w.pending) c.wallet.view_is)) (waiting_all c.args.wallet.now c.args.book.now c.requires.book)
