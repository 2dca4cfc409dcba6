use Rattle.std.proofs.Common.{◌≡◌, ◌∙◌, ℕ, ◌||◌, ◌&&◌, Bool, true, false, List, [], ◌∷◌, refl, sym, ap}
use Rattle.std.specs.Prelude.{slice_index_or}
use Rattle.std.specs.List.{list_any}
use Rattle.std.proofs.lemmas.List.{get_or_default}
use Rattle.std.proofs.lemmas.List.Folds.{list_any-append}
use Rattle.fund_base.specs.Outpoints.{same_outpoint}
use Rattle.fund_base.specs.declared.outpoint.OutPoint.{OutPoint}
use Rattle.tx_codec.specs.Transaction.{Transaction}
use Rattle.coin_book.specs.Spends.{has_input}
use Rattle.payment_states.specs.Graph.{below}
use Rattle.payment_states.specs.PendingView.{no_tx}
use Rattle.payment_states.proofs.Below.{below_more}
use Rattle.payment_states.proofs.claims.claimed_of.Goals as goal

pub loop-place-init : goal.loop-place-init
unfolding below
loop-place-init c = λ o. ap (λ (ks : List OutPoint). list_any (same_outpoint o) ks) c.new-set.ensures.empty

one : (b : Bool) → b ≡ (b || false)
one true = refl
one false = refl

pub loop-place-preserved : goal.loop-place-preserved
loop-place-preserved c = λ o.
    let i = c.loop-place.place in
    let txs = c.args.txs.now in
    let p : ℕ → Bool = λ i. slice_index_or c.args.pending.now i false && has_input o (slice_index_or txs i no_tx).inputs in
    let read = c.deref.ensures.value ∙ ap (λ (t : Transaction). t.inputs) (c.tx.view_is ∙ c.index-txs-place.is ∙ get_or_default txs i c.index-txs-place.result no_tx c.loop-place-test.true) in
    c.in_ok-add_pending.ensures o
    ∙ (λ k. c.loop-place.invariant o k || (slice_index_or c.args.pending.now i false && has_input o (read k)))
    ∙ ap (λ b. list_any p (below i) || b) (one (p i))
    ∙ sym (list_any-append p (below i) (i ∷ []))
    ∙ ap (list_any p) (sym (below_more i))
