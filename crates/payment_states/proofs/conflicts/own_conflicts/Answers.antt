use Rattle.std.proofs.Common.{◌≡◌, ◌∙◌, ◌⊎◌, inl, inr, ℕ, ◌+◌, ◌<◌, List, [], ◌∷◌, ◌++◌, length, get_or, Option, Some, sym, ap, arith}
use Rattle.std.proofs.lemmas.Bool.{cases_eq}
use Rattle.std.proofs.lemmas.List.{get_or_default, map_more}
use Rattle.tx_codec.specs.Transaction.{Transaction}
use Rattle.tx_codec.specs.declared.tx.TxIn.{TxIn}
use Rattle.coin_book.specs.History.{Confirmed}
use Rattle.coin_book.specs.Spends.{has_input}
use Rattle.payment_states.specs.ByPlace.{FindsTxid, first_conflict}
use Rattle.payment_states.proofs.conflicts.own_conflicts.Goals as goal

-- what is noted of the transactions up to a place, where that one's own is noted last
told_more : (chain : List Confirmed) (names : List (ℕ × List ℕ)) (ts : List Transaction) (i j k : ℕ) (x d : Transaction) (inputs : List TxIn) → i < length ts → inputs ≡ (get_or ts i x).inputs
    → ((n : ℕ) → first_conflict chain inputs ≡ Some n → FindsTxid chain names n) → (j < i → FindsTxid chain names k) → j < i + 1 → first_conflict chain (get_or ts j d).inputs ≡ Some k → FindsTxid chain names k
told_more chain names ts i j k x d inputs lt read own before le e = by (cases_eq j i)
  where
    by : (j ≡ i) ⊎ (j ≡ i → ⊥) → FindsTxid chain names k
    by (inl same) = own k (ap (first_conflict chain) (read ∙ ap (λ (t : Transaction). t.inputs) (get_or_default ts i x d lt) ∙ ap (λ n. (get_or ts n d).inputs) (sym same)) ∙ e)
    by (inr other) = before (omega arith)

pub loop-tx-preserved : goal.loop-tx-preserved
loop-tx-preserved c =
    let chain = c.args.book.now.confirmed in
    let ts = c.args.pending.now in
    let i = c.loop-tx.tx-index in
    let x = c.tx-item.result in
    let lt = c.loop-tx-test.true in
    let f : Transaction → Option ℕ = λ t. first_conflict chain t.inputs in
    let read : c.deref.result.now ≡ (get_or ts i x).inputs = c.deref.ensures.value ∙ ap (λ (t : Transaction). t.inputs) (c.tx.view_is ∙ c.tx-item.is) in
    let here : c.in_ok-place.place ≡ f (get_or ts i x) = c.in_ok-place.ensures.place ∙ ap (first_conflict chain) read in (
      c.in_ok-push.ensures.items ∙ (λ k. c.loop-tx.invariant.0 k ++ here k ∷ []) ∙ sym (map_more f ts i x lt),
      omega (arith, c.in_ok-push.ensures.len),
      λ j k d le e. told_more chain c.note_conflict.new.names.entries ts i j k x d c.deref.result.now lt read c.in_ok-place.ensures.told
          (λ in'. c.in_ok-place.ensures.kept k (c.loop-tx.invariant.2 j k d in' e)) le e,
    )

pub note_conflict-requires : goal.note_conflict-requires
note_conflict-requires c = λ o spends.
    let ts = c.args.pending.now in
    let i = c.loop-tx.tx-index in
    let x = c.tx-item.result in
    let read : c.deref.result.now ≡ (get_or ts i x).inputs = c.deref.ensures.value ∙ ap (λ (t : Transaction). t.inputs) (c.tx.view_is ∙ c.tx-item.is) in
    inr (get_or ts i x, c.requires i x c.loop-tx-test.true, sym (ap (has_input o) read) ∙ spends)
