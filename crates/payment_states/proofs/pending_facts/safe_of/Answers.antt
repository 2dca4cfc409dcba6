use Rattle.std.proofs.Common.{◌∙◌, ℕ, false, List, length, map, sym, ap, subst}
use Rattle.std.specs.Prelude.{is_none, slice_index_or}
use Rattle.std.proofs.lemmas.List.{length-map}
use Rattle.coin_book.specs.Coins.{coins_of}
use Rattle.payment_states.specs.Graph.{IsInOrder}
use Rattle.payment_states.specs.PendingView.{parents, view_of}
use Rattle.payment_states.proofs.FactSteps.{kept_is, order_filter, safe_are}
use Rattle.payment_states.proofs.pending_facts.safe_of.Goals as goal

pub least_of_kin-requires-clause-order : goal.least_of_kin-requires-clause-order
least_of_kin-requires-clause-order c =
    subst IsInOrder (sym (c.deref.ensures.value ∙ c.in_ok-graph.ensures.kept))
    (order_filter (λ j. slice_index_or c.args.pending.now j false) c.args.parents.now c.requires.order)

pub least_of_kin-requires-clause-same : goal.least_of_kin-requires-clause-same
least_of_kin-requires-clause-same c =
    let txs = c.args.wallet.now.pending in
    c.deref-2.ensures.len ∙ c.in_ok-doubts.ensures.len
    ∙ sym (c.deref.ensures.len ∙ c.in_ok-graph.ensures.len ∙ ap (λ (l : List (List ℕ)). length l) c.requires.parents ∙ length-map txs (parents c.args.book.now.confirmed txs))

pub returns : goal.returns
returns c =
    let w = view_of c.args.wallet.now c.args.book.now in
    let coins = coins_of c.args.book.now in
    c.in_ok-safe.ensures.which
    ∙ ap (map is_none) (c.deref-3.ensures.value ∙ c.in_ok-least.ensures.least)
    ∙ safe_are w coins c.deref.result.now c.deref-2.result.now (c.deref.ensures.value ∙ c.in_ok-graph.ensures.kept ∙ kept_is w c.args.parents.now c.args.pending.now c.requires.parents c.requires.pending) (c.deref-2.ensures.value ∙ c.in_ok-doubts.ensures.doubts)
