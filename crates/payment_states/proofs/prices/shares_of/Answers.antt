use Rattle.std.proofs.Common.{◌≡◌, ◌≤◌, ◌∙◌, ℕ, false, cond, List, [], ◌∷◌, ◌++◌, length, map, get_or, sym, ap, subst, arith, All}
use Rattle.std.specs.Prelude.{sum_by}
use Rattle.std.proofs.lemmas.List.{get_or_default}
use Rattle.std.proofs.lemmas.List.Elements.{All-append, All-cons, All-nil}
use Rattle.tx_codec.specs.Transaction.{Transaction}
use Rattle.tx_codec.specs.declared.tx.TxOut.{TxOut}
use Rattle.known_fees.specs.Missing.{missing_of}
use Rattle.payment_states.specs.Graph.{below}
use Rattle.payment_states.specs.PendingView.{no_tx}
use Rattle.payment_states.proofs.Below.{map_below_more}
use Rattle.payment_states.proofs.prices.shares_of.Goals as goal

abbrev Fits : ℕ → Type 0
Fits n = n ≤ 2_100_000_000_000_000

pub share-requires-clause-money : goal.share-requires-clause-money
share-requires-clause-money c =
    subst (λ (t : Transaction). sum_by (λ (x : TxOut). x.value) t.outputs ≤ 2_100_000_000_000_000) (sym c.index-txs-place.is) (c.requires.money c.loop-place.place c.index-txs-place.result c.loop-place-test.true)

pub loop-place-init : goal.loop-place-init
unfolding below
loop-place-init c = (c.new-shares.ensures.items, subst (λ (ns : List ℕ). All Fits ns) (sym c.new-shares.ensures.items) (All-nil Fits), c.new-shares.ensures.len)

pub loop-place-preserved : goal.loop-place-preserved
loop-place-preserved c =
    let i = c.loop-place.place in
    let txs = c.args.txs.now in
    let f : ℕ → ℕ = λ i. cond (get_or c.args.flags.now i false) (missing_of c.args.rate c.args.book.now txs (get_or txs i no_tx)) 0 in
    let tx = c.index-txs-place.is ∙ get_or_default txs i c.index-txs-place.result no_tx c.loop-place-test.true in
    let here = c.in_ok-share.ensures.value ∙ ap (λ (t : Transaction). cond (get_or c.args.flags.now i false) (missing_of c.args.rate c.args.book.now txs t) 0) tx in (
      c.in_ok-push.ensures.items ∙ (λ k. c.loop-place.invariant.0 k ++ here k ∷ []) ∙ sym (map_below_more f i),
      subst (λ (ns : List ℕ). All Fits ns) (sym c.in_ok-push.ensures.items) (All-append Fits c.loop-place.shares.items _ c.loop-place.invariant.1 (All-cons Fits _ [] c.in_ok-share.ensures.most (All-nil Fits))),
      omega (arith, c.in_ok-push.ensures.len),
    )

pub returns-clause-shares : goal.returns-clause-shares
returns-clause-shares c =
    let txs = c.args.txs.now in
    let f : ℕ → ℕ = λ i. cond (get_or c.args.flags.now i false) (missing_of c.args.rate c.args.book.now txs (get_or txs i no_tx)) 0 in
    let e : c.loop-place.place ≡ length txs = omega arith in
    c.loop-place.invariant.0 ∙ ap (λ n. map f (below n)) e
