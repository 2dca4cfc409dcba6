-- What conflicts with a replacement is replaced.
use Rattle.std.proofs.Common.{◌≡◌, ◌∙◌, ◌⊎◌, inl, inr, ℕ, ◌<◌, ◌++◌, not, Bool, true, false, List, length, None, Some, refl, sym, ap, subst, Contains}
use Rattle.std.specs.Prelude.{bytes_eq}
use Rattle.std.specs.List.{Any}
use Rattle.std.proofs.lemmas.List.Elements.{All-contains, Contains-append_cases}
use Rattle.std.proofs.lemmas.Slice.Eq.{bytes_eq-Decides}
use Rattle.fund_base.specs.Outpoints.{same_outpoint}
use Rattle.coin_candidates.specs.declared.candidate.Candidate.{Candidate}
use Rattle.fund_base.specs.declared.outpoint.OutPoint.{OutPoint}
use Rattle.fund_base.proofs.Lists.{any_found}
use Rattle.fund_base.proofs.OutpointLaws.{same_outpoint-Decides}
use Rattle.tx_codec.specs.Transaction.{Transaction}
use Rattle.tx_codec.specs.Txid.{txid_of}
use Rattle.tx_codec.specs.declared.tx.TxIn.{TxIn}
use Rattle.wallet_text.specs.PlainWallet.{PlainWallet}
use Rattle.wallet_text.specs.WalletRules.{IsWallet}
use Rattle.request_text.specs.PlainRequest.{PlainRequest}
use Rattle.coin_book.specs.Faults.{fault_of as book_fault}
use Rattle.coin_book.specs.History.{History}
use Rattle.coin_book.specs.Spends.{has_input}
use Rattle.payment_facts.specs.AnyCoin.{facts_at}
use Rattle.payment_states.specs.BookOf.{IsBookOf}
use Rattle.payment_states.specs.Causes.{HasCause, IsAlive, Spends}
use Rattle.payment_states.specs.Causes.IsKin.{itself}
use Rattle.payment_facts.specs.LeftOut.{confirmed_without_of, history_without, wallet_without}
use Rattle.payment_states.specs.PendingView.{PendingView, is_listed, place_in, tx_at, view_of}
use Rattle.payment_states.specs.declared.state.State.TheVariants as state
use Rattle.payment_states.proofs.ClearSteps.{one_spender}
use Rattle.payment_facts.proofs.LeftSteps.{left_exact, map_from}
use Rattle.payment_states.proofs.LookSteps.{one_place}
use Rattle.payment_states.proofs.MakerSteps.{at_height}
use Rattle.payment_states.proofs.NumberSteps.{waits_back}
use Rattle.payment_states.proofs.Paths.{any_has}
use Rattle.fee_bump.specs.Bump.{payment_place, replaced_at, replaced_txids, terms_of}
use Rattle.fee_bump.specs.Faults.{fault_of}
use Rattle.fee_bump.specs.Meant.{CanReplace, GoesWith}
use Rattle.fee_bump.proofs.CauseLaws.{bump_clear}
use Rattle.fee_bump.proofs.GoesSteps.{replaced_place}
use Rattle.fee_bump.proofs.ShorterSteps.{still_pending, to_short}
use Rattle.fee_bump.proofs.TermLaws.{added_told, preset_only}

input_has : (o : OutPoint) (t : Transaction) → Spends o t → has_input o t.inputs ≡ true
unfolding has_input
input_has o t there = any_has (λ (i : TxIn). same_outpoint i.prev o) t.inputs there.1 (there.0, there.2, there.3) ((same_outpoint-Decides there.1.prev o).1 there.4)

module _ (w : PlainWallet) (h : History) (tip : ℕ) (r : PlainRequest) (txid : List ℕ) (rules : IsWallet w) (book : IsBookOf w h) (sound : book_fault h ≡ None) (asked : r.bump ≡ Some txid) (clear : fault_of w h r ≡ None) where
  abbrev view : PendingView
  view = view_of w h

  abbrev place : ℕ
  place = payment_place view r

  abbrev gone : List (List ℕ)
  gone = replaced_txids view place

  abbrev keep : Transaction → Bool
  keep t = not (is_listed gone (txid_of t))

  can : CanReplace w h r place
  can = bump_clear w h r rules txid asked clear

  -- one of a txid that is left out goes with the payment
  listed_goes : (p : ℕ) → p < length w.pending → is_listed gone (txid_of (tx_at view p)) ≡ true → GoesWith view place p
  listed_goes p lt e =
      let f = any_found (λ x. bytes_eq x (txid_of (tx_at view p))) gone e in
      let m = map_from txid_of (replaced_at view place) f.0 f.1 in
      let t = replaced_place view rules.pending_distinct rules.parents place m.0 m.1 in
      let same : t.0 ≡ p = one_place view p t.0 rules.pending_distinct lt t.1.stands (sym ((bytes_eq-Decides f.0 (txid_of (tx_at view p))).0 f.2) ∙ sym m.2 ∙ ap txid_of (sym t.2)) in
      subst (GoesWith view place) same t.1

  dropped : (p : ℕ) → p < length w.pending → keep (tx_at view p) ≡ false → IsAlive view p
  dropped p lt e = by (is_listed gone (txid_of (tx_at view p))) refl e
    where
      by : (b : Bool) → is_listed gone (txid_of (tx_at view p)) ≡ b → not b ≡ false → IsAlive view p
      by true is off = (listed_goes p lt is).waits.0
      by false is off = absurd cc

  -- of what is added none is spent by another Pending one
  added_free : (c : Candidate) → Contains (confirmed_without_of w h tip gone) c → (k : ℕ) → k < length w.pending → HasCause view k state.Pending → Spends c.coin (tx_at view k) → GoesWith view place k
  added_free c there k lt cause spends = by (is_listed gone (txid_of (tx_at view k))) refl
    where
      by : (b : Bool) → is_listed gone (txid_of (tx_at view k)) ≡ b → GoesWith view place k
      by true e = listed_goes k lt e
      by false e =
          let l = (left_exact w h tip gone c rules).0 there in
          let point : c.coin ≡ l.0.coin = ap (λ (x : Candidate). x.coin) (sym l.4) ∙ (at_height (wallet_without gone w) (history_without gone h) tip 0 l.0 l.0.height (place_in (wallet_without gone w).pending l.0.coin.txid)).point in
          let m = to_short view keep rules.pending_distinct k lt (ap not e) in
          absurd (l.3.unclaimed m.0 (m.1.short, still_pending view keep rules.pending_distinct dropped m.1 cause) (subst (λ (o : OutPoint). Spends o (tx_at (view_of (wallet_without gone w) (history_without gone h)) m.0)) point (subst (Spends c.coin) (sym m.1.is) spends)))

  -- what a preset is spent by is the payment
  preset_own : (c : Candidate) → Contains (terms_of w h tip r).presets c → (k : ℕ) → k < length w.pending → HasCause view k state.Pending → Spends c.coin (tx_at view k) → GoesWith view place k
  preset_own c there k lt cause spends =
      let found : Any (λ (x : TxIn). x.prev ≡ c.coin) (tx_at view place).inputs × (facts_at w h tip r.rate c.coin ≡ Some c) =
      All-contains (λ (p : Candidate). Any (λ (x : TxIn). x.prev ≡ p.coin) (tx_at view place).inputs × (facts_at w h tip r.rate p.coin ≡ Some p)) (terms_of w h tip r).presets c (preset_only w h tip r rules book sound) there in
      let at = can.reckoned.offered.named.stands in
      let g = can.reckoned.offered.waits in
      let same : place ≡ k =
      one_spender view c.coin place k rules.parents at lt (waits_back view rules.pending_distinct rules.parents place at g) (waits_back view rules.pending_distinct rules.parents k lt cause)
      (input_has c.coin (tx_at view place) found.0) (input_has c.coin (tx_at view k) spends) in
      subst (GoesWith view place) same (record { stands = at; descends = itself; waits = g })

  pub conflict_goes : (c : Candidate) → Contains ((terms_of w h tip r).presets ++ (terms_of w h tip r).candidates) c → (k : ℕ) → k < length w.pending → HasCause view k state.Pending → Spends c.coin (tx_at view k) → GoesWith view place k
  unfolding terms_of
  conflict_goes c there k lt cause spends = by (Contains-append_cases (terms_of w h tip r).presets (terms_of w h tip r).candidates c there)
    where
      by : Contains (terms_of w h tip r).presets c ⊎ Contains (terms_of w h tip r).candidates c → GoesWith view place k
      by (inl own) = preset_own c own k lt cause spends
      by (inr more) = added_free c ((added_told (terms_of w h tip r).presets (confirmed_without_of w h tip gone) gone c).0 more).0 k lt cause spends
