-- From the payment that a request names to its place in the pending list.
use Rattle.std.proofs.Common.{◌≡◌, ◌∙◌, ℕ, ◌<◌, List, [], length, Option, Some, None, Result, Ok, Err, IfOk, refl, subst, sym, ap}
use Rattle.std.specs.Prelude.{OnOk, bytes_eq, option_and_then, option_map, slice_get, unwrap_or}
use Rattle.wallet_text.specs.PlainWallet.{PlainWallet}
use Rattle.request_text.specs.PlainRequest.{PlainRequest}
use Rattle.coin_book.specs.History.{History}
use Rattle.payment_states.specs.ByPlace.{place_among}
use Rattle.payment_states.specs.Payments.{payments_of, state_of}
use Rattle.payment_states.specs.PendingView.{place_in, view_of}
use Rattle.payment_states.specs.declared.state.Payment.{Payment}
use Rattle.payment_states.specs.declared.state.State.{State}
use Rattle.payment_states.specs.declared.state.State.TheVariants as state
use Rattle.payment_facts.proofs.AnySteps.{place_known, place_within}
use Rattle.known_fees.proofs.Positions.{find_by_place}
use Rattle.fee_bump.specs.Bump.{PlainTerms, payment_place, terms_at, terms_of}
use Rattle.fee_bump.specs.Faults.{fault_of, pending_fault, signal_fault, state_fault}
use Rattle.fee_bump.specs.declared.fault.BumpFault.{BumpFault}
use Rattle.fee_bump.specs.declared.fault.BumpFault.TheVariants.{Memory, NotPending}

pub pending_is : (found : Option State) → pending_fault found ≡ None → found ≡ Some state.Pending
pending_is None e = cc
pending_is (Some (state.Confirmed height)) e = cc
pending_is (Some (state.Conflicted by)) e = cc
pending_is (Some state.Abandoned) e = cc
pending_is (Some (state.Replaced by)) e = cc
pending_is (Some state.Pending) e = refl

pub pending_real : (found : Option State) → pending_fault found ≡ Some Memory → ⊥
pending_real None e = cc
pending_real (Some (state.Confirmed height)) e = cc
pending_real (Some (state.Conflicted by)) e = cc
pending_real (Some state.Abandoned) e = cc
pending_real (Some (state.Replaced by)) e = cc
pending_real (Some state.Pending) e = cc

-- terms that are those of a payment that can be replaced have a preset
pub some_told : (result : Result PlainTerms BumpFault) (terms : PlainTerms) (fault : Option BumpFault) → IfOk result (λ t. t ≡ terms) → OnOk result (fault ≡ None) → (fault ≡ None → 0 < length terms.presets) → IfOk result (λ t. 0 < length t.presets)
some_told (Ok t) terms fault is none some = subst (λ (x : PlainTerms). 0 < length x.presets) (sym is) (some none)
some_told (Err e) terms fault is none some = tt

module _ (w : PlainWallet) (h : History) (r : PlainRequest) (ps : List Payment) (txid : List ℕ) (asked : r.bump ≡ Some txid) (told : ps ≡ payments_of w h) where
  by_state : (found : Option State) → found ≡ state_of ps txid → fault_of w h r ≡ state_fault w h r found
  unfolding fault_of
  by_state found is = (λ k. state_fault w h r (state_of (sym told k) (unwrap_or (asked k) []))) ∙ ap (λ (o : Option State). state_fault w h r o) (sym is)

  -- no transaction of the pending list has its txid
  pub not_there : place_among ps txid ≡ None → fault_of w h r ≡ Some (NotPending None)
  not_there e =
      by_state None
      (sym (ap (λ (o : Option Payment). option_map (λ (p : Payment). p.state) o) (sym (find_by_place (λ (p : Payment). bytes_eq txid p.txid) ps) ∙ ap (λ (o : Option ℕ). option_and_then (slice_get ps) o) e)))

  -- its state keeps it
  pub not_pending : (found : Option State) (fault : BumpFault) → found ≡ state_of ps txid → pending_fault found ≡ Some fault → fault_of w h r ≡ Some fault
  not_pending found fault is e = by_state found is ∙ by found e
    where
      by : (o : Option State) → pending_fault o ≡ Some fault → state_fault w h r o ≡ Some fault
      by None e = e
      by (Some (state.Confirmed height)) e = e
      by (Some (state.Conflicted txid)) e = e
      by (Some state.Abandoned) e = e
      by (Some (state.Replaced txid)) e = e
      by (Some state.Pending) e = cc

  -- ---- where it is Pending

  pub place_named : (place : ℕ) → place_among ps txid ≡ Some place → payment_place (view_of w h) r ≡ place
  place_named place e =
      ap (λ (o : Option (List ℕ)). unwrap_or (place_in w.pending (unwrap_or o [])) (length w.pending)) asked
      ∙ ap (λ (o : Option ℕ). unwrap_or o (length w.pending)) (sym (place_known w h ps txid told) ∙ e)

  pub place_stands : (place : ℕ) → place_among ps txid ≡ Some place → place < length w.pending
  place_stands place e = place_within w.pending txid (Some place) (sym e ∙ place_known w h ps txid told)

  pub past_pending : (found : Option State) (place : ℕ) → found ≡ state_of ps txid → pending_fault found ≡ None → place_among ps txid ≡ Some place → fault_of w h r ≡ signal_fault w h r place
  past_pending found place is none e =
      by_state found is ∙ ap (λ (o : Option State). state_fault w h r o) (pending_is found none) ∙ ap (signal_fault w h r) (place_named place e)

  pub terms_there : (tip place : ℕ) → place_among ps txid ≡ Some place → terms_at w h tip r place ≡ terms_of w h tip r
  unfolding terms_of
  terms_there tip place e = ap (terms_at w h tip r) (sym (place_named place e))

  pub state_asked : (found : Option State) → found ≡ state_of ps txid → pending_fault found ≡ None → state_of (payments_of w h) (unwrap_or r.bump []) ≡ Some state.Pending
  state_asked found is none = (λ k. state_of (sym told k) (unwrap_or (asked k) [])) ∙ sym is ∙ pending_is found none
