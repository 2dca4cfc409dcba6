-- What goes with a payment, and what is known of an outpoint.
use Rattle.std.proofs.Common.{◌≡◌, ◌∙◌, ◌⊎◌, inl, inr, ℕ, ◌<◌, Bool, true, false, List, [], ◌∷◌, length, get_or, Option, Some, None, refl, sym, ap, subst, arith, Contains, All, AllPairs}
use Rattle.std.specs.Prelude.{bytes_eq, find, is_none, is_some, nat_lt, option_and_then, option_map, slice_get}
use Rattle.std.specs.Option.{option_or}
use Rattle.std.proofs.lemmas.Bool.{lt-ltb, ltb-true, true≢false}
use Rattle.std.proofs.lemmas.List.{length-map}
use Rattle.std.proofs.lemmas.List.Elements.{All-contains_itself, All-filter, All-map, All-weaker}
use Rattle.std.proofs.lemmas.List.Kept.{AllPairs-filter}
use Rattle.std.proofs.lemmas.Option.{slice_get-get_or, slice_get_within}
use Rattle.std.proofs.lemmas.Slice.Eq.{bytes_eq-Decides}
use Rattle.fund_base.specs.Outpoints.{same_outpoint}
use Rattle.fund_base.specs.declared.outpoint.OutPoint.{OutPoint}
use Rattle.fund_base.proofs.Lists.{any_found, found_some}
use Rattle.fund_base.proofs.OutpointLaws.{same_outpoint-Decides}
use Rattle.tx_codec.specs.Signals.{Signals}
use Rattle.tx_codec.specs.Transaction.{Transaction}
use Rattle.tx_codec.specs.Txid.{txid_of}
use Rattle.tx_codec.specs.declared.tx.TxIn.{TxIn}
use Rattle.tx_codec.specs.declared.tx.TxOut.{TxOut}
use Rattle.wallet_text.specs.WalletRules.{AreDistinct, ParentsComeFirst}
use Rattle.coin_book.specs.AtOutpoint.{coin_under}
use Rattle.coin_book.specs.Coins.{Made, coins_of, made_of}
use Rattle.coin_book.specs.History.{History}
use Rattle.coin_book.specs.declared.coin.Coin.{Coin}
use Rattle.payment_states.specs.Candidates.{is_coin, is_pending}
use Rattle.payment_states.specs.Causes.{HasCause, IsKin}
use Rattle.payment_states.specs.Causes.IsKin.{above, itself}
use Rattle.payment_states.specs.Graph.{below, within}
use Rattle.payment_facts.specs.Pendings.{heirs, pending_above, pending_below}
use Rattle.payment_states.specs.PendingView.{PendingView, kin_of, graph, no_tx, tx_at}
use Rattle.payment_states.specs.declared.state.State.TheVariants as state
use Rattle.payment_facts.proofs.AnySteps.{under}
use Rattle.payment_states.proofs.Below.{below_within, get_or_map}
use Rattle.payment_states.proofs.FactSteps.{any_map, graph_count}
use Rattle.payment_states.proofs.AbandonedSteps.{kin_within}
use Rattle.payment_states.proofs.KinSteps.{below_has, below_rises, kin_has, kin_only, kin_stands, tested, tests}
use Rattle.payment_facts.proofs.LeftSteps.{filter_in, in_filter, map_from, map_has}
use Rattle.payment_states.proofs.LookSteps.{one_place}
use Rattle.payment_states.proofs.MakerSteps.{coin_in, found}
use Rattle.payment_states.proofs.NumberSteps.{waits, waits_back}
use Rattle.payment_states.proofs.Paths.{any_has}
pub use Rattle.known_fees.proofs.KnownSteps.{AreOne, known_back, known_told}
use Rattle.fee_bump.specs.Bump.{replaced_at}
use Rattle.fee_bump.specs.Faults.{can_be_replaced, has_signal}
use Rattle.fee_bump.specs.Meant.{GoesWith, MayBeReplaced}

-- ---- signals

pub signal_told : (t : Transaction) → has_signal t ≡ true → Signals t
signal_told t e = let f = any_found (λ (i : TxIn). nat_lt i.sequence 4294967294) t.inputs e in (f.1.0, f.0, f.1.1, f.1.2, ltb-true f.0.sequence 4294967294 f.2)

pub signal_back : (t : Transaction) → Signals t → has_signal t ≡ true
signal_back t s = any_has (λ (i : TxIn). nat_lt i.sequence 4294967294) t.inputs s.1 (s.0, s.2, s.3) (lt-ltb s.1.sequence 4294967294 s.4)

-- a way, and then another
pub kin_then : (w : PendingView) {i j k : ℕ} → IsKin w i j → IsKin w j k → IsKin w i k
kin_then w itself rest = rest
kin_then w (above p up) rest = above p (kin_then w up rest)

-- what makes a payment replaceable makes its descendants so
pub signals_too : (w : PendingView) (i j : ℕ) → MayBeReplaced w i → GoesWith w i j → MayBeReplaced w j
signals_too w i j m g = (m.0, kin_then w g.descends m.1, m.2, m.3)

module _ (w : PendingView) (apart : AreDistinct w.pending) (rule : ParentsComeFirst w.pending) where
  pub may_told : (i : ℕ) → i < length w.pending → can_be_replaced w i ≡ true → MayBeReplaced w i
  unfolding can_be_replaced
  may_told i lt e =
      let f = any_found (λ j. has_signal (tx_at w j)) (pending_above w i) e in
      let b = filter_in (is_pending w) (kin_of w i) f.0 f.1 in
      let k = kin_only w apart rule i f.0 lt b.0 in
      (f.0, k, waits w apart rule f.0 (kin_stands w apart rule k lt) b.1, signal_told (tx_at w f.0) f.2)

  pub may_back : (i : ℕ) → i < length w.pending → MayBeReplaced w i → can_be_replaced w i ≡ true
  unfolding can_be_replaced
  may_back i lt m =
      any_has (λ j. has_signal (tx_at w j)) (pending_above w i) m.0
      (in_filter (is_pending w) (kin_of w i) m.0 (kin_has w apart rule i m.0 lt m.1) (waits_back w apart rule m.0 (kin_stands w apart rule m.1 lt) m.2))
      (signal_back (tx_at w m.0) m.3)

  -- ---- what goes with a payment

  pub heirs_told : (i j : ℕ) → Contains (pending_below w i) j → GoesWith w i j
  heirs_told i j c =
      let a = filter_in (is_pending w) (heirs w i) j c in
      let b = filter_in (λ k. within (graph w) (length (graph w)) k i) (below (length w.pending)) j a.0 in
      let lt = below_within (length w.pending) j b.0 in
      record { stands = lt; descends = tested w apart rule j i lt b.1; waits = waits w apart rule j lt a.1 }

  pub heirs_back : (i j : ℕ) → GoesWith w i j → Contains (pending_below w i) j
  heirs_back i j g =
      in_filter (is_pending w) (heirs w i) j
      (in_filter (λ k. within (graph w) (length (graph w)) k i) (below (length w.pending)) j (below_has (length w.pending) j g.stands) (tests w apart rule j i g.stands g.descends))
      (waits_back w apart rule j g.stands g.waits)

  -- the payment itself is replaced
  pub own_replaced : (i : ℕ) → i < length w.pending → HasCause w i state.Pending → Contains (replaced_at w i) (tx_at w i)
  unfolding replaced_at
  own_replaced i lt waiting = map_has (tx_at w) (pending_below w i) i (heirs_back i i (record { stands = lt; descends = itself; waits = waiting }))

  -- one that is replaced stands at a place
  pub replaced_place : (i : ℕ) (t : Transaction) → Contains (replaced_at w i) t → (j : ℕ) × GoesWith w i j × (tx_at w j ≡ t)
  unfolding replaced_at
  replaced_place i t c = let m = map_from (tx_at w) (pending_below w i) t c in (m.0, heirs_told i m.0 m.1, m.2)

  -- two of one txid are one
  pub one_replaced : (i : ℕ) (s t : Transaction) → Contains (replaced_at w i) s → Contains (replaced_at w i) t → txid_of s ≡ txid_of t → s ≡ t
  one_replaced i s t a b e =
      let m = replaced_place i s a in
      let n = replaced_place i t b in
      let same = one_place w m.0 n.0 apart m.1.stands n.1.stands (ap txid_of m.2 ∙ e ∙ sym (ap txid_of n.2)) in
      sym m.2 ∙ ap (tx_at w) (sym same) ∙ n.2

pub below_rise : (w : PendingView) (i : ℕ) → AllPairs (λ (a b : ℕ). a < b) (pending_below w i)
below_rise w i =
    AllPairs-filter (λ (a b : ℕ). a < b) (is_pending w) (heirs w i)
    (AllPairs-filter (λ (a b : ℕ). a < b) (λ k. within (graph w) (length (graph w)) k i) (below (length w.pending)) (below_rises (length w.pending)))

-- ---- what is known

pub unknown : {X : Type 0} (r : Option X) → is_none r ≡ true → is_some r ≡ true → ⊥
unknown None e s = true≢false (sym s)
unknown (Some x) e s = true≢false (sym e)

pub not_none : {X : Type 0} (r : Option X) → is_some r ≡ true → is_none r ≡ false
not_none None e = absurd (true≢false (sym e))
not_none (Some x) e = refl

pub not_some : {X : Type 0} (r : Option X) → is_none r ≡ false → is_some r ≡ true
not_some None e = absurd (true≢false e)
not_some (Some x) e = refl

-- ---- the places of what goes with a payment

pub above_within : (w : PendingView) (i : ℕ) → All (λ p. p < length w.pending) (pending_above w i)
above_within w i =
    All-filter (is_pending w) (λ p. p < length w.pending) (kin_of w i)
    (All-weaker (Contains (kin_of w i)) (λ p. p < length w.pending) (λ p c. let n = graph_count w in let lt = kin_within (graph w) i p c in omega arith) (kin_of w i) (All-contains_itself (kin_of w i)))

pub below_places : (w : PendingView) (i : ℕ) → All (λ p. p < length w.pending) (pending_below w i)
below_places w i =
    All-filter (is_pending w) (λ p. p < length w.pending) (heirs w i)
    (All-filter (λ k. within (graph w) (length (graph w)) k i) (λ p. p < length w.pending) (below (length w.pending))
    (All-weaker (Contains (below (length w.pending))) (λ p. p < length w.pending) (λ p c. below_within (length w.pending) p c) (below (length w.pending)) (All-contains_itself (below (length w.pending)))))

-- at rising places distinct transactions stand
pub replaced_apart : (w : PendingView) (i : ℕ) → AreDistinct w.pending → AreDistinct (replaced_at w i)
unfolding replaced_at
replaced_apart w i apart a b d lt in' =
    let n = length-map (pending_below w i) (tx_at w) in
    let places = pending_below w i in
    let b_in : b < length places = omega arith in
    let a_in : a < length places = omega arith in
    let rise = below_rise w i a b 0 lt b_in in
    let within = below_places w i b 0 b_in in
    let x = get_or_map (tx_at w) places a d 0 a_in in
    let y = get_or_map (tx_at w) places b d 0 b_in in
    λ same. apart (get_or places a 0) (get_or places b 0) no_tx rise within (sym (ap txid_of x) ∙ same ∙ ap txid_of y)

-- what all pending transactions are, those that are replaced are too
pub replaced_all : (P : Transaction → Type 0) (w : PendingView) (i : ℕ) → All P w.pending → All P (replaced_at w i)
unfolding replaced_at
replaced_all P w i all = All-map P (tx_at w) (pending_below w i) (All-weaker (λ p. p < length w.pending) (λ p. P (tx_at w p)) (λ p lt. all p no_tx lt) (pending_below w i) (below_places w i))
