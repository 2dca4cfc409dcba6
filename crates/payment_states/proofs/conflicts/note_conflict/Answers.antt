use Rattle.std.proofs.Common.{◌≡◌, ◌∙◌, ◌⊎◌, inl, inr, ℕ, Option, Some, None, List, refl, sym, ap}
use Rattle.tx_codec.specs.declared.tx.TxIn.{TxIn}
use Rattle.coin_book.proofs.SpendSteps.{has_one}
use Rattle.coin_book.specs.History.{Confirmed}
use Rattle.payment_states.specs.Least.{lesser}
use Rattle.payment_states.specs.ByPlace.{FindsTxid, first_place}
use Rattle.payment_states.proofs.LeastSteps.{least_more, lesser_either}
use Rattle.payment_states.proofs.conflicts.note_conflict.Goals as goal

-- the lesser of two places is noted, where both are
told_either : (chain : List Confirmed) (names : List (ℕ × List ℕ)) (a b r : Option ℕ) (k : ℕ) → r ≡ lesser a b → (a ≡ Some k → FindsTxid chain names k) → (b ≡ Some k → FindsTxid chain names k) → r ≡ Some k → FindsTxid chain names k
told_either chain names a b r k is left right e = by (lesser_either a b k (sym is ∙ e))
  where
    by : (a ≡ Some k) ⊎ (b ≡ Some k) → FindsTxid chain names k
    by (inl h) = left h
    by (inr h) = right h

pub loop-input-preserved : goal.loop-input-preserved
loop-input-preserved c =
    let chain = c.args.book.now.confirmed in
    let first : TxIn → Option ℕ = λ i. first_place chain i.prev in
    let place : c.in_ok-place.place ≡ first c.input-item.result = c.in_ok-place.ensures.place in (
      c.lesser-least.ensures
          ∙ (λ k. lesser (c.loop-input.invariant.0 k) ((place ∙ ap first c.input-item.is) k))
          ∙ least_more first None c.args.inputs.now c.loop-input.input-index c.input-item.result c.loop-input-test.true,
      λ k e. told_either chain c.note_first.new.names.entries c.loop-input.least c.in_ok-place.place c.lesser-least.result k c.lesser-least.ensures
          (λ h. c.in_ok-place.ensures.kept k (c.loop-input.invariant.1 k h)) (λ h. c.in_ok-place.ensures.told k (sym place ∙ h)) e,
      λ k h. c.in_ok-place.ensures.kept k (c.loop-input.invariant.2 k h),
    )

pub note_first-requires : goal.note_first-requires
note_first-requires c =
    let x = c.input-item.result in
    c.requires x.prev (has_one x.prev c.args.inputs.now (c.loop-input.input-index, x, c.loop-input-test.true, sym c.input-item.is, refl))
