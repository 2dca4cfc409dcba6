use Rattle.std.proofs.Common.{◌≡◌, ◌∙◌, ◌⊎◌, inl, inr, ℕ, ◌+◌, ◌-◌, ◌<◌, ◌≤◌, ◌&&◌, Bool, false, cond, List, length, map, get_or, set, Option, Some, None, sym, ap, arith}
use Rattle.std.specs.Map.{lookup}
use Rattle.std.proofs.lemmas.Bool.{cases_eq}
use Rattle.std.proofs.lemmas.List.{get_or-set_same, get_or-set_other, get_or_default, same_lists}
use Rattle.fund_base.specs.Outpoints.{same_outpoint}
use Rattle.fund_base.specs.declared.outpoint.OutPoint.{OutPoint}
use Rattle.tx_codec.specs.Transaction.{Transaction}
use Rattle.tx_codec.specs.declared.tx.TxIn.{TxIn}
use Rattle.coin_book.specs.Spends.{has_input}
use Rattle.payment_states.specs.Graph.{below}
use Rattle.payment_states.specs.Least.{least_by}
use Rattle.payment_states.specs.ByPlace.{replacer_by}
use Rattle.payment_states.specs.PendingView.{no_tx}
use Rattle.payment_states.proofs.Below.{get_or-map_below, length-map_below}
use Rattle.payment_states.proofs.BackSteps.{replacer_found, spender, spender_none, spender_step}
use Rattle.payment_states.proofs.LeastSteps.{least_agree}
use Rattle.payment_states.proofs.replaced.replacers.Goals as goal

module _ (pending : List Transaction) (alive : List Bool) where
  -- what the entries give is the replacer
  here : (entries : List (OutPoint × ℕ)) (p q : ℕ) (inputs : List TxIn) (found : Option ℕ) → q ≡ p + 1 → ((o : OutPoint) → lookup (same_outpoint o) entries ≡ spender pending alive q o)
      → inputs ≡ (get_or pending p no_tx).inputs → found ≡ least_by (λ (i : TxIn). lookup (same_outpoint i.prev) entries) inputs → found ≡ replacer_by pending alive p
  here entries p q inputs found e kept read is =
      is
      ∙ least_agree (λ (i : TxIn). lookup (same_outpoint i.prev) entries) (λ (i : TxIn). spender pending alive (p + 1) i.prev) inputs (λ i c. kept i.prev ∙ ap (λ n. spender pending alive n i.prev) e)
      ∙ ap (least_by (λ (i : TxIn). spender pending alive (p + 1) i.prev)) read
      ∙ replacer_found pending alive p

  -- the replacers from this place on
  more : (items : List (Option ℕ)) (p q : ℕ) (found : Option ℕ) → q ≡ p + 1 → length items ≡ length pending → p < length pending → found ≡ replacer_by pending alive p
      → ((k : ℕ) → q ≤ k → k < length pending → get_or items k None ≡ replacer_by pending alive k)
      → (k : ℕ) → p ≤ k → k < length pending → get_or (set items p found) k None ≡ replacer_by pending alive k
  more items p q found e long lt is so_far k le in' = by (cases_eq k p)
    where
      by : (k ≡ p) ⊎ (k ≡ p → ⊥) → get_or (set items p found) k None ≡ replacer_by pending alive k
      by (inl same) = ap (λ j. get_or (set items p found) j None) same ∙ get_or-set_same items p found None (omega arith) ∙ is ∙ ap (replacer_by pending alive) (sym same)
      by (inr other) = get_or-set_other items p k found None other ∙ so_far k (omega arith) in'

  all : (items : List (Option ℕ)) → length items ≡ length pending → ((k : ℕ) → k < length pending → get_or items k None ≡ replacer_by pending alive k) → items ≡ map (replacer_by pending alive) (below (length pending))
  all items long each =
      same_lists items (map (replacer_by pending alive) (below (length pending))) (long ∙ sym (length-map_below (replacer_by pending alive) (length pending)))
      (λ k d lt. get_or_default items k d None lt ∙ each k (omega arith) ∙ sym (get_or-map_below (replacer_by pending alive) (length pending) k d (omega arith)))

pub loop-place-init : goal.loop-place-init
loop-place-init c = (omega arith, c.in_ok-found.ensures.len, λ k le lt. absurd (omega arith), λ o. ap (lookup (same_outpoint o)) c.new-nearest.ensures.empty ∙ sym (spender_none c.args.pending.now c.args.alive.now o))

pub loop-place-preserved : goal.loop-place-preserved
loop-place-preserved c =
    let pending = c.args.pending.now in
    let alive = c.args.alive.now in
    let p = c.loop-place.place - 1 in
    let q = c.loop-place.place in
    let inv = c.loop-place.invariant in
    let e : q ≡ p + 1 = omega arith in
    let lt : p < length pending = omega (arith, inv.0) in
    let long : length c.loop-place.found.items ≡ length pending = sym c.loop-place.found.ok.0 ∙ inv.1 in
    let read : c.deref.result.now ≡ (get_or pending p no_tx).inputs = c.deref.ensures.value ∙ ap (λ (t : Transaction). t.inputs) (c.tx.view_is ∙ c.index-pending-place.is ∙ get_or_default pending p c.index-pending-place.result no_tx lt) in
    let again : c.deref-in-loop-place.result.now ≡ (get_or pending p no_tx).inputs = c.deref-in-loop-place.ensures.value ∙ ap (λ (t : Transaction). t.inputs) (c.tx.view_is ∙ c.index-pending-place.is ∙ get_or_default pending p c.index-pending-place.result no_tx lt) in
    let is = here pending alive c.loop-place.nearest.entries p q c.deref.result.now c.nearest_of.result e inv.3 read c.nearest_of.ensures in (
      omega arith,
      inv.1,
      more pending alive c.loop-place.found.items p q c.nearest_of.result e long lt is inv.2,
      λ o. c.in_ok-keep_alive.ensures o
          ∙ (λ k. cond (get_or alive p false && has_input o (again k)) (Some p) ((inv.3 o ∙ ap (λ n. spender pending alive n o) e) k))
          ∙ sym (spender_step pending alive p o lt),
    )

pub returns-clause-replacers : goal.returns-clause-replacers
returns-clause-replacers c =
    all c.args.pending.now c.args.alive.now c.loop-place.found.items (sym c.loop-place.found.ok.0 ∙ c.loop-place.invariant.1) (λ k lt. c.loop-place.invariant.2 k (omega arith) lt)
