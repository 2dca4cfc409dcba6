-- Each state has its cause, and no other.
use Rattle.std.proofs.Common.{◌≡◌, ◌≢◌, ◌∙◌, ◌⊎◌, inl, inr, ℕ, ◌<◌, ◌≤◌, ◌&&◌, Bool, true, false, List, length, take, Option, Some, None, Contains, refl, sym, ap, subst, arith, slice_get}
use Rattle.std.specs.Prelude.{bytes_eq, find, is_none, is_some, nat_lt, not, option_and_then, option_map, ◌↔◌}
use Rattle.std.specs.List.{list_any}
use Rattle.std.proofs.lemmas.Bool.{and_from, and_parts, cases_lt, false_from_ne_true, lt-ltb, ltb-true, not-true, true≢false}
use Rattle.std.proofs.lemmas.List.Elements.{All-weaker}
use Rattle.std.proofs.lemmas.Option.{none-some, same_Some, slice_get-get_or, slice_get_within}
use Rattle.std.proofs.lemmas.Slice.Eq.{bytes_eq-Decides}
use Rattle.fund_base.proofs.Lists.{any_found}
use Rattle.fund_base.specs.declared.outpoint.OutPoint.{OutPoint}
use Rattle.tx_codec.specs.Transaction.{Transaction}
use Rattle.tx_codec.specs.Txid.{txid_of}
use Rattle.tx_codec.specs.declared.tx.TxIn.{TxIn}
use Rattle.wallet_text.specs.PlainWallet.{PlainWallet}
use Rattle.wallet_text.specs.WalletRules.{AreDistinct, ParentsComeFirst}
use Rattle.coin_book.specs.History.{Confirmed, History}
use Rattle.coin_book.specs.Spends.{IsSpendOf, has_input, height_of, spend_at}
use Rattle.coin_book.specs.declared.coin.Spend.{Spend}
use Rattle.coin_book.proofs.SpendSteps.{at_place, has_one, spends_by_one, told_at}
use Rattle.payment_states.specs.Causes.{Conflicts, HasCause, HasNoConflict, HasNoReplacer, IsAlive, IsConfirmedAt, IsConflictedBy, IsAbandoned, IsKin, IsReplacedBy, Replaces, SpendAlike, Spends}
use Rattle.payment_states.specs.Graph.{below, within}
use Rattle.payment_states.specs.Payments.{conflicts_at, conflict, first_of, is_abandoned, is_alive, payment_at, payments_in, payments_of, replaced, replacer, state_at, txid_at, txid_in}
use Rattle.payment_states.specs.PendingView.{PendingView, kin_of, graph, is_listed, shares, tx_at, view_of}
use Rattle.payment_states.specs.declared.state.Payment.{Payment}
use Rattle.payment_states.specs.declared.state.State.{State}
use Rattle.payment_states.specs.declared.state.State.TheVariants as state
use Rattle.payment_states.proofs.Below.{get_or-map_below}
use Rattle.payment_states.proofs.FactSteps.{payments_count}
use Rattle.payment_states.proofs.KinSteps.{count, kin_has, kin_only, find_filter, find_there, first_below, found_at, kin_stands, no_height, none_below, tested, tests, unconfirmed}
use Rattle.payment_states.proofs.Paths.{any_has}

-- ---- confirmed

same_name : (txid : List ℕ) (c : Confirmed) → bytes_eq (txid_of c.tx) txid ≡ true → txid_of c.tx ≡ txid
same_name txid c = (bytes_eq-Decides (txid_of c.tx) txid).0

other_name : (txid : List ℕ) (c : Confirmed) → bytes_eq (txid_of c.tx) txid ≡ false → txid_of c.tx ≢ txid
other_name txid c e same = true≢false (sym ((bytes_eq-Decides (txid_of c.tx) txid).1 same) ∙ e)

pub confirmed_there : (chain : List Confirmed) (txid : List ℕ) (height : ℕ) → height_of chain txid ≡ Some height → IsConfirmedAt chain txid height
unfolding height_of
confirmed_there chain txid height e = by (find (λ (c : Confirmed). bytes_eq (txid_of c.tx) txid) chain) refl e
  where
    by : (o : Option Confirmed) → find (λ (c : Confirmed). bytes_eq (txid_of c.tx) txid) chain ≡ o → option_map (λ (c : Confirmed). c.height) o ≡ Some height → IsConfirmedAt chain txid height
    by None is e = absurd (none-some height e)
    by (Some c) is e =
        let f = found_at (λ (c : Confirmed). bytes_eq (txid_of c.tx) txid) chain c is in
        record {
          place = f.0;
          by = c;
          stands = f.1;
          txid_is = same_name txid c f.2;
          height_is = same_Some c.height height e;
          first = All-weaker (λ (c : Confirmed). bytes_eq (txid_of c.tx) txid ≡ false) (λ (c : Confirmed). txid_of c.tx ≢ txid) (other_name txid) (take f.0 chain) f.3;
        }

pub confirmed_back : (chain : List Confirmed) (txid : List ℕ) (height : ℕ) → IsConfirmedAt chain txid height → height_of chain txid ≡ Some height
unfolding height_of
confirmed_back chain txid height h =
    ap (λ (o : Option Confirmed). option_map (λ (c : Confirmed). c.height) o)
    (find_there (λ (c : Confirmed). bytes_eq (txid_of c.tx) txid) chain h.by h.place h.stands ((bytes_eq-Decides (txid_of h.by.tx) txid).1 h.txid_is)
    (All-weaker (λ (c : Confirmed). txid_of c.tx ≢ txid) (λ (c : Confirmed). bytes_eq (txid_of c.tx) txid ≡ false)
    (λ c ne. false_from_ne_true (bytes_eq (txid_of c.tx) txid) (λ same. ne (same_name txid c same))) (take h.place chain) h.first))
    ∙ ap (λ (n : ℕ). Some n) h.height_is

-- ---- transactions that spend alike

alike : (a b : Transaction) → shares a b ≡ true → SpendAlike a b
alike a b e =
    let f = any_found (λ (i : TxIn). has_input i.prev b.inputs) a.inputs e in
    (f.0.prev, (f.1.0, f.0, f.1.1, f.1.2, refl), spends_by_one f.0.prev b.inputs f.2)

alike_back : (a b : Transaction) → SpendAlike a b → shares a b ≡ true
alike_back a b h =
    any_has (λ (i : TxIn). has_input i.prev b.inputs) a.inputs h.1.1 (h.1.0, h.1.2, h.1.3)
    (ap (λ (o : OutPoint). has_input o b.inputs) h.1.4 ∙ has_one h.0 b.inputs h.2)

-- ---- one confirmed transaction with a conflict

conflicts_at_found : (chain : List Confirmed) (t : Transaction) (place : ℕ) → conflicts_at chain t place ≡ true → (o : OutPoint) × (s : Spend) × Spends o t × IsSpendOf chain o s × (s.place ≡ place)
conflicts_at_found chain t place e = by (spend_at chain f.0.prev place) refl f.2
  where
    f : (x : TxIn) × Contains t.inputs x × (is_some (spend_at chain x.prev place) ≡ true)
    f = any_found (λ (x : TxIn). is_some (spend_at chain x.prev place)) t.inputs e

    by : (r : Option Spend) → spend_at chain f.0.prev place ≡ r → is_some r ≡ true → (o : OutPoint) × (s : Spend) × Spends o t × IsSpendOf chain o s × (s.place ≡ place)
    by None is t = absurd (true≢false (sym t))
    by (Some s) is t = let a = at_place chain f.0.prev place s is in (f.0.prev, s, (f.1.0, f.0, f.1.1, f.1.2, refl), a.0, a.1)

conflicts_at_back : (chain : List Confirmed) (t : Transaction) (o : OutPoint) (s : Spend) → Spends o t → IsSpendOf chain o s → conflicts_at chain t s.place ≡ true
conflicts_at_back chain t o s a h =
    any_has (λ (x : TxIn). is_some (spend_at chain x.prev s.place)) t.inputs a.1 (a.0, a.2, a.3)
    (ap (λ (p : OutPoint). is_some (spend_at chain p s.place)) a.4 ∙ ap (λ (r : Option Spend). is_some r) (told_at chain o s h))

listed : (txids : List (List ℕ)) (txid : List ℕ) → is_listed txids txid ≡ true → Contains txids txid
listed txids txid e = let f = any_found (λ x. bytes_eq x txid) txids e in subst (Contains txids) ((bytes_eq-Decides f.0 txid).0 f.2) f.1

listed_back : (txids : List (List ℕ)) (txid : List ℕ) → Contains txids txid → is_listed txids txid ≡ true
listed_back txids txid c = any_has (λ x. bytes_eq x txid) txids txid c ((bytes_eq-Decides txid txid).1 refl)

-- the same place has one transaction
one_spend : (chain : List Confirmed) (o p : OutPoint) (s t : Spend) → IsSpendOf chain o s → IsSpendOf chain p t → s.place ≡ t.place → s.txid ≡ t.txid
one_spend chain o p s t a b e =
    let same : a.by ≡ b.by = same_Some a.by b.by (sym a.stands ∙ ap (slice_get chain) e ∙ b.stands) in
    a.txid_is ∙ ap (λ (c : Confirmed). txid_of c.tx) same ∙ sym b.txid_is

is_no_value : {X : Type 0} (o : Option X) → is_none o ≡ true → o ≡ None
is_no_value None e = refl
is_no_value (Some x) e = absurd (true≢false (sym e))

module _ (w : PendingView) (apart : AreDistinct w.pending) (rule : ParentsComeFirst w.pending) where
  -- ---- one of its kin passes a test

  some_kin : (p : ℕ → Bool) (i : ℕ) → i < length w.pending → list_any p (kin_of w i) ≡ true → (j : ℕ) × IsKin w i j × (p j ≡ true)
  some_kin p i lt e = let f = any_found p (kin_of w i) e in (f.0, kin_only w apart rule i f.0 lt f.1, f.2)

  kin_some : (p : ℕ → Bool) (i j : ℕ) → i < length w.pending → IsKin w i j → p j ≡ true → list_any p (kin_of w i) ≡ true
  kin_some p i j lt k e = any_has p (kin_of w i) j (kin_has w apart rule i j lt k) e

  -- ---- conflicted

  abbrev meets : ℕ → ℕ → Bool
  meets i place = list_any (λ j. conflicts_at w.chain (tx_at w j) place) (kin_of w i)

  met : (i place : ℕ) → i < length w.pending → meets i place ≡ true → (s : Spend) × Conflicts w i s × (s.place ≡ place)
  met i place lt e =
      let f = some_kin (λ j. conflicts_at w.chain (tx_at w j) place) i lt e in
      let c = conflicts_at_found w.chain (tx_at w f.0) place f.2 in
      (c.1, (f.0, c.0, f.1, c.2, c.3), c.4)

  meet : (i : ℕ) (s : Spend) → i < length w.pending → Conflicts w i s → meets i s.place ≡ true
  meet i s lt c = kin_some (λ j. conflicts_at w.chain (tx_at w j) s.place) i c.0 lt c.2 (conflicts_at_back w.chain (tx_at w c.0) c.1 s c.3 c.4)

  in_chain : (i : ℕ) (s : Spend) → Conflicts w i s → s.place < length w.chain
  in_chain i s c = let h = c.4 in slice_get_within w.chain s.place h.by h.stands

  -- there is none, or the first has its txid
  conflict_cases : (i : ℕ) → i < length w.pending → ((conflict w i ≡ None) × HasNoConflict w i) ⊎ ((by : List ℕ) × (option_and_then (txid_in w.chain) (conflict w i) ≡ Some by) × IsConflictedBy w i by)
  unfolding conflict
  conflict_cases i lt = by (conflict w i) refl
    where
      by : (r : Option ℕ) → conflict w i ≡ r → ((r ≡ None) × HasNoConflict w i) ⊎ ((by : List ℕ) × (option_and_then (txid_in w.chain) r ≡ Some by) × IsConflictedBy w i by)
      by None e = inl (refl, λ s c. true≢false (sym (meet i s lt c) ∙ none_below (meets i) (length w.chain) e s.place (in_chain i s c)))
      by (Some k) e =
          let f = first_below (meets i) (length w.chain) k e in
          let m = met i k lt f.passes in
          let h = m.1.4 in
          inr (
            m.0.txid,
            ap (txid_in w.chain) (sym m.2) ∙ ap (option_map (λ (c : Confirmed). txid_of c.tx)) h.stands ∙ ap (λ (t : List ℕ). Some t) (sym h.txid_is),
            (m.0, m.1, λ t c. no_earlier f.before m.0 m.2 t c (cases_lt t.place k), refl),
          )
        where
          no_earlier : ((n : ℕ) → n < k → meets i n ≡ false) → (s : Spend) → s.place ≡ k → (t : Spend) → Conflicts w i t → (t.place < k) ⊎ (k ≤ t.place) → s.place ≤ t.place
          no_earlier before s is t c (inl b) = absurd (true≢false (sym (meet i t lt c) ∙ before t.place b))
          no_earlier before s is t c (inr b) = omega arith

  one_conflict : (i : ℕ) (a b : List ℕ) → IsConflictedBy w i a → IsConflictedBy w i b → a ≡ b
  one_conflict i a b x y =
      let le = x.2 y.0 y.1 in
      let ge = y.2 x.0 x.1 in
      let same : x.0.place ≡ y.0.place = omega arith in
      sym x.3 ∙ one_spend w.chain x.1.1 y.1.1 x.0 y.0 x.1.4 y.1.4 same ∙ y.3

  abbrev named : ℕ → Option (List ℕ)
  named i = option_and_then (txid_in w.chain) (conflict w i)

  conflict_there : (i : ℕ) (by : List ℕ) → i < length w.pending → named i ≡ Some by → IsConflictedBy w i by
  conflict_there i by lt e = at (conflict_cases i lt)
    where
      at : ((conflict w i ≡ None) × HasNoConflict w i) ⊎ ((by : List ℕ) × (named i ≡ Some by) × IsConflictedBy w i by) → IsConflictedBy w i by
      at (inl h) = absurd (none-some by (sym (ap (option_and_then (txid_in w.chain)) h.0) ∙ e))
      at (inr h) = subst (IsConflictedBy w i) (same_Some h.0 by (sym h.1 ∙ e)) h.2

  conflict_back : (i : ℕ) (by : List ℕ) → i < length w.pending → IsConflictedBy w i by → named i ≡ Some by
  conflict_back i by lt c = at (conflict_cases i lt)
    where
      at : ((conflict w i ≡ None) × HasNoConflict w i) ⊎ ((by : List ℕ) × (named i ≡ Some by) × IsConflictedBy w i by) → named i ≡ Some by
      at (inl h) = absurd (h.1 c.0 c.1)
      at (inr h) = h.1 ∙ ap (λ (t : List ℕ). Some t) (one_conflict i h.0 by h.2 c)

  unconflicted : (i : ℕ) → i < length w.pending → named i ≡ None → HasNoConflict w i
  unconflicted i lt e = at (conflict_cases i lt)
    where
      at : ((conflict w i ≡ None) × HasNoConflict w i) ⊎ ((by : List ℕ) × (named i ≡ Some by) × IsConflictedBy w i by) → HasNoConflict w i
      at (inl h) = h.1
      at (inr h) = absurd (none-some h.0 (sym e ∙ h.1))

  no_conflict : (i : ℕ) → i < length w.pending → HasNoConflict w i → conflict w i ≡ None
  no_conflict i lt none = at (conflict_cases i lt)
    where
      at : ((conflict w i ≡ None) × HasNoConflict w i) ⊎ ((by : List ℕ) × (named i ≡ Some by) × IsConflictedBy w i by) → conflict w i ≡ None
      at (inl h) = h.0
      at (inr h) = absurd (none h.2.0 h.2.1)

  -- ---- abandoned

  abandoned : (i : ℕ) → i < length w.pending → is_abandoned w i ≡ true → IsAbandoned w i
  unfolding is_abandoned
  abandoned i lt e =
      let f = some_kin (λ j. is_listed w.abandoned (txid_of (tx_at w j))) i lt e in
      (f.0, f.1, listed w.abandoned (txid_of (tx_at w f.0)) f.2)

  abandoned_back : (i : ℕ) → i < length w.pending → IsAbandoned w i → is_abandoned w i ≡ true
  unfolding is_abandoned
  abandoned_back i lt h = kin_some (λ j. is_listed w.abandoned (txid_of (tx_at w j))) i h.0 lt h.1 (listed_back w.abandoned (txid_of (tx_at w h.0)) h.2)

  not_abandoned : (i : ℕ) → i < length w.pending → (IsAbandoned w i → ⊥) → is_abandoned w i ≡ false
  not_abandoned i lt none = false_from_ne_true (is_abandoned w i) (λ e. none (abandoned i lt e))

  kept : (i : ℕ) → i < length w.pending → is_abandoned w i ≡ false → IsAbandoned w i → ⊥
  kept i lt e h = true≢false (sym (abandoned_back i lt h) ∙ e)

  -- ---- alive

  alive : (i : ℕ) → i < length w.pending → is_alive w i ≡ true → IsAlive w i
  unfolding is_alive
  alive i lt e =
      let a = and_parts (is_none (height_of w.chain (txid_of (tx_at w i)))) (is_none (conflict w i) && not (is_abandoned w i)) e in
      let b = and_parts (is_none (conflict w i)) (not (is_abandoned w i)) a.1 in
      record {
        unconfirmed = unconfirmed w.chain (txid_of (tx_at w i)) (is_no_value (height_of w.chain (txid_of (tx_at w i))) a.0);
        unconflicted = unconflicted i lt (ap (option_and_then (txid_in w.chain)) (is_no_value (conflict w i) b.0));
        kept = kept i lt (not-true (is_abandoned w i) b.1);
      }

  alive_back : (i : ℕ) → i < length w.pending → IsAlive w i → is_alive w i ≡ true
  unfolding is_alive
  alive_back i lt h =
      ap (λ (o : Option ℕ). is_none o && (is_none (conflict w i) && not (is_abandoned w i))) (no_height w.chain (txid_of (tx_at w i)) h.unconfirmed)
      ∙ ap (λ (o : Option ℕ). is_none o && not (is_abandoned w i)) (no_conflict i lt h.unconflicted)
      ∙ ap not (not_abandoned i lt h.kept)

  -- ---- replaced

  abbrev takes_over : ℕ → ℕ → Bool
  takes_over j k = nat_lt j k && (shares (tx_at w j) (tx_at w k) && is_alive w k)

  takes : (j k : ℕ) → k < length w.pending → takes_over j k ≡ true → Replaces w j k
  takes j k lt e =
      let a = and_parts (nat_lt j k) (shares (tx_at w j) (tx_at w k) && is_alive w k) e in
      let b = and_parts (shares (tx_at w j) (tx_at w k)) (is_alive w k) a.1 in
      record { stands = lt; later = ltb-true j k a.0; alike = alike (tx_at w j) (tx_at w k) b.0; alive = alive k lt b.1 }

  takes_back : (j k : ℕ) → Replaces w j k → takes_over j k ≡ true
  takes_back j k h =
      and_from (nat_lt j k) (shares (tx_at w j) (tx_at w k) && is_alive w k) (lt-ltb j k h.later)
      (and_from (shares (tx_at w j) (tx_at w k)) (is_alive w k) (alike_back (tx_at w j) (tx_at w k) h.alike) (alive_back k h.stands h.alive))

  replacer_there : (j k : ℕ) → replacer w j ≡ Some k → Replaces w j k × ((b : ℕ) → Replaces w j b → k ≤ b)
  unfolding replacer
  replacer_there j k e =
      let f = first_below (takes_over j) (length w.pending) k e in
      (takes j k f.within f.passes, λ b h. at f.before b h (cases_lt b k))
    where
      at : ((m : ℕ) → m < k → takes_over j m ≡ false) → (b : ℕ) → Replaces w j b → (b < k) ⊎ (k ≤ b) → k ≤ b
      at before b h (inl lt) = absurd (true≢false (sym (takes_back j b h) ∙ before b lt))
      at before b h (inr le) = le

  no_replacer : (j : ℕ) → replacer w j ≡ None → (k : ℕ) → Replaces w j k → ⊥
  unfolding replacer
  no_replacer j e k h = true≢false (sym (takes_back j k h) ∙ none_below (takes_over j) (length w.pending) e k h.stands)

  has_replacer : (j k : ℕ) → Replaces w j k → is_some (replacer w j) ≡ true
  has_replacer j k h = by (replacer w j) refl
    where
      by : (r : Option ℕ) → replacer w j ≡ r → is_some r ≡ true
      by None e = absurd (no_replacer j e k h)
      by (Some m) e = refl

  abbrev is_over : ℕ → ℕ → Bool
  is_over i j = within (graph w) (length (graph w)) i j && is_some (replacer w j)

  over : (i j k : ℕ) → i < length w.pending → IsKin w i j → Replaces w j k → is_over i j ≡ true
  over i j k lt kin h = and_from (within (graph w) (length (graph w)) i j) (is_some (replacer w j)) (tests w apart rule i j lt kin) (has_replacer j k h)

  abbrev over_by : ℕ → Option (List ℕ)
  over_by i = option_map (txid_at w.pending) (replaced w i)

  -- there is none, or the first has its txid
  replaced_cases : (i : ℕ) → i < length w.pending → ((over_by i ≡ None) × HasNoReplacer w i) ⊎ ((by : List ℕ) × (over_by i ≡ Some by) × IsReplacedBy w i by)
  unfolding replaced
  replaced_cases i lt = by (find (λ j. is_some (replacer w j)) (kin_of w i)) (sym (find_filter (within (graph w) (length (graph w)) i) (λ j. is_some (replacer w j)) (below (length (graph w)))))
    where
      n : length (graph w) ≡ length w.pending
      n = count w apart rule

      first : (j k : ℕ) → ((m : ℕ) → m < j → is_over i m ≡ false) → (a b : ℕ) → IsKin w i a → Replaces w a b → (a < j) ⊎ (j ≤ a) → j ≤ a
      first j k before a b kin h (inl less) = absurd (true≢false (sym (over i a b lt kin h) ∙ before a less))
      first j k before a b kin h (inr le) = le

      found : (j : ℕ) (s : Option ℕ) → replacer w j ≡ s → is_some s ≡ true → IsKin w i j → ((m : ℕ) → m < j → is_over i m ≡ false)
          → ((option_map (txid_at w.pending) s ≡ None) × HasNoReplacer w i) ⊎ ((by : List ℕ) × (option_map (txid_at w.pending) s ≡ Some by) × IsReplacedBy w i by)
      found j None e t kin before = absurd (true≢false (sym t))
      found j (Some k) e t kin before =
          let r = replacer_there j k e in
          inr (txid_of (tx_at w k), refl, record { j = j; k = k; kin = kin; replaces = r.0; first = λ a b x h. first j k before a b x h (cases_lt a j); nearest = r.1; txid_is = refl })

      by : (r : Option ℕ) → find (is_over i) (below (length (graph w))) ≡ r
          → ((option_map (txid_at w.pending) (option_and_then (replacer w) r) ≡ None) × HasNoReplacer w i) ⊎ ((by : List ℕ) × (option_map (txid_at w.pending) (option_and_then (replacer w) r) ≡ Some by) × IsReplacedBy w i by)
      by None e = inl (refl, λ j k kin h. let m = n in let stands = kin_stands w apart rule kin lt in true≢false (sym (over i j k lt kin h) ∙ none_below (is_over i) (length (graph w)) e j (omega arith)))
      by (Some j) e =
          let f = first_below (is_over i) (length (graph w)) j e in
          let p = and_parts (within (graph w) (length (graph w)) i j) (is_some (replacer w j)) f.passes in
          found j (replacer w j) refl p.1 (tested w apart rule i j lt p.0) f.before

  one_replacer : (i : ℕ) (a b : List ℕ) → IsReplacedBy w i a → IsReplacedBy w i b → a ≡ b
  one_replacer i a b x y =
      let le = x.first y.j y.k y.kin y.replaces in
      let ge = y.first x.j x.k x.kin x.replaces in
      let same : x.j ≡ y.j = omega arith in
      let under = x.nearest y.k (subst (λ j. Replaces w j y.k) (sym same) y.replaces) in
      let upper = y.nearest x.k (subst (λ j. Replaces w j x.k) same x.replaces) in
      let k_same : x.k ≡ y.k = omega arith in
      sym x.txid_is ∙ ap (λ k. txid_of (tx_at w k)) k_same ∙ y.txid_is

  replaced_there : (i : ℕ) (by : List ℕ) → i < length w.pending → over_by i ≡ Some by → IsReplacedBy w i by
  replaced_there i by lt e = at (replaced_cases i lt)
    where
      at : ((over_by i ≡ None) × HasNoReplacer w i) ⊎ ((by : List ℕ) × (over_by i ≡ Some by) × IsReplacedBy w i by) → IsReplacedBy w i by
      at (inl h) = absurd (none-some by (sym h.0 ∙ e))
      at (inr h) = subst (IsReplacedBy w i) (same_Some h.0 by (sym h.1 ∙ e)) h.2

  replaced_back : (i : ℕ) (by : List ℕ) → i < length w.pending → IsReplacedBy w i by → over_by i ≡ Some by
  replaced_back i by lt c = at (replaced_cases i lt)
    where
      at : ((over_by i ≡ None) × HasNoReplacer w i) ⊎ ((by : List ℕ) × (over_by i ≡ Some by) × IsReplacedBy w i by) → over_by i ≡ Some by
      at (inl h) = absurd (h.1 c.j c.k c.kin c.replaces)
      at (inr h) = h.1 ∙ ap (λ (t : List ℕ). Some t) (one_replacer i h.0 by h.2 c)

  unreplaced : (i : ℕ) → i < length w.pending → over_by i ≡ None → HasNoReplacer w i
  unreplaced i lt e = at (replaced_cases i lt)
    where
      at : ((over_by i ≡ None) × HasNoReplacer w i) ⊎ ((by : List ℕ) × (over_by i ≡ Some by) × IsReplacedBy w i by) → HasNoReplacer w i
      at (inl h) = h.1
      at (inr h) = absurd (none-some h.0 (sym e ∙ h.1))

  not_replaced : (i : ℕ) → i < length w.pending → HasNoReplacer w i → over_by i ≡ None
  not_replaced i lt none = at (replaced_cases i lt)
    where
      at : ((over_by i ≡ None) × HasNoReplacer w i) ⊎ ((by : List ℕ) × (over_by i ≡ Some by) × IsReplacedBy w i by) → over_by i ≡ None
      at (inl h) = h.0
      at (inr h) = let r = h.2 in absurd (none r.j r.k r.kin r.replaces)

  -- ---- the state

  pub cause_is : (i : ℕ) → i < length w.pending → HasCause w i (state_at w i)
  unfolding state_at
  cause_is i lt = by (height_of w.chain (txid_of (tx_at w i))) (named i) (is_abandoned w i) (over_by i) refl refl refl refl
    where
      by : (h : Option ℕ) (c : Option (List ℕ)) (g : Bool) (r : Option (List ℕ)) → height_of w.chain (txid_of (tx_at w i)) ≡ h → named i ≡ c → is_abandoned w i ≡ g → over_by i ≡ r → HasCause w i (first_of h c g r)
      by (Some height) c g r a b d e = confirmed_there w.chain (txid_of (tx_at w i)) height a
      by None (Some t) g r a b d e = (unconfirmed w.chain (txid_of (tx_at w i)) a, conflict_there i t lt b)
      by None None true r a b d e = (unconfirmed w.chain (txid_of (tx_at w i)) a, unconflicted i lt b, abandoned i lt d)
      by None None false (Some t) a b d e = (record { unconfirmed = unconfirmed w.chain (txid_of (tx_at w i)) a; unconflicted = unconflicted i lt b; kept = kept i lt d }, replaced_there i t lt e)
      by None None false None a b d e = (record { unconfirmed = unconfirmed w.chain (txid_of (tx_at w i)) a; unconflicted = unconflicted i lt b; kept = kept i lt d }, unreplaced i lt e)

  -- the first tests fail
  unnamed : (i : ℕ) → i < length w.pending → HasNoConflict w i → named i ≡ None
  unnamed i lt h = ap (option_and_then (txid_in w.chain)) (no_conflict i lt h)

  pub is_cause : (i : ℕ) (s : State) → i < length w.pending → HasCause w i s → state_at w i ≡ s
  unfolding state_at
  is_cause i (state.Confirmed height) lt h = ap (λ (a : Option ℕ). first_of a (named i) (is_abandoned w i) (over_by i)) (confirmed_back w.chain (txid_of (tx_at w i)) height h)
  is_cause i (state.Conflicted by) lt h =
      ap (λ (a : Option ℕ). first_of a (named i) (is_abandoned w i) (over_by i)) (no_height w.chain (txid_of (tx_at w i)) h.0)
      ∙ ap (λ (a : Option (List ℕ)). first_of None a (is_abandoned w i) (over_by i)) (conflict_back i by lt h.1)
  is_cause i state.Abandoned lt h =
      ap (λ (a : Option ℕ). first_of a (named i) (is_abandoned w i) (over_by i)) (no_height w.chain (txid_of (tx_at w i)) h.0)
      ∙ ap (λ (a : Option (List ℕ)). first_of None a (is_abandoned w i) (over_by i)) (unnamed i lt h.1)
      ∙ ap (λ (a : Bool). first_of None None a (over_by i)) (abandoned_back i lt h.2)
  is_cause i (state.Replaced by) lt h = lives i lt h.0 ∙ ap (λ (a : Option (List ℕ)). first_of None None false a) (replaced_back i by lt h.1)
    where
      lives : (i : ℕ) → i < length w.pending → IsAlive w i → first_of (height_of w.chain (txid_of (tx_at w i))) (named i) (is_abandoned w i) (over_by i) ≡ first_of None None false (over_by i)
      lives i lt a =
          ap (λ (b : Option ℕ). first_of b (named i) (is_abandoned w i) (over_by i)) (no_height w.chain (txid_of (tx_at w i)) a.unconfirmed)
          ∙ ap (λ (b : Option (List ℕ)). first_of None b (is_abandoned w i) (over_by i)) (unnamed i lt a.unconflicted)
          ∙ ap (λ (b : Bool). first_of None None b (over_by i)) (not_abandoned i lt a.kept)
  is_cause i state.Pending lt h =
      ap (λ (b : Option ℕ). first_of b (named i) (is_abandoned w i) (over_by i)) (no_height w.chain (txid_of (tx_at w i)) h.0.unconfirmed)
      ∙ ap (λ (b : Option (List ℕ)). first_of None b (is_abandoned w i) (over_by i)) (unnamed i lt h.0.unconflicted)
      ∙ ap (λ (b : Bool). first_of None None b (over_by i)) (not_abandoned i lt h.0.kept)
      ∙ ap (λ (b : Option (List ℕ)). first_of None None false b) (not_replaced i lt h.1)

-- ---- the payments

pub payments_long : (w : PlainWallet) (h : History) → length (payments_of w h) ≡ length w.pending
unfolding payments_of
payments_long w h = payments_count (view_of w h)

-- the one at a place
payment_there : (w : PendingView) (i : ℕ) → i < length w.pending → slice_get (payments_in w) i ≡ Some (payment_at w i)
payment_there w i lt =
    let n = payments_count w in
    slice_get-get_or (payments_in w) i (payment_at w i) (omega arith) ∙ ap (λ (p : Payment). Some p) (get_or-map_below (payment_at w) (length w.pending) i (payment_at w i) lt)

abbrev told : List ℕ → State → Payment
told txid s = record { txid = txid; state = s }

pub payment_is : (w : PlainWallet) (h : History) (i : ℕ) (s : State) → AreDistinct w.pending → ParentsComeFirst w.pending → i < length w.pending
    → (slice_get (payments_of w h) i ≡ Some (told (txid_of (tx_at (view_of w h) i)) s)) ↔ HasCause (view_of w h) i s
unfolding payments_of
payment_is w h i s apart rule lt = (there, back)
  where
    there : slice_get (payments_in (view_of w h)) i ≡ Some (told (txid_of (tx_at (view_of w h) i)) s) → HasCause (view_of w h) i s
    there e =
        let same = same_Some (payment_at (view_of w h) i) (told (txid_of (tx_at (view_of w h) i)) s) (sym (payment_there (view_of w h) i lt) ∙ e) in
        subst (HasCause (view_of w h) i) (ap (λ (p : Payment). p.state) same) (cause_is (view_of w h) apart rule i lt)

    back : HasCause (view_of w h) i s → slice_get (payments_in (view_of w h)) i ≡ Some (told (txid_of (tx_at (view_of w h) i)) s)
    back c = payment_there (view_of w h) i lt ∙ ap (λ (t : State). Some (told (txid_of (tx_at (view_of w h) i)) t)) (is_cause (view_of w h) apart rule i s lt c)
