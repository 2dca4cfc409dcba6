-- What is worked out of a payment that is to be replaced is the first cause that is there, each in its order.
use Rattle.std.proofs.Common.{◌≡◌, ◌≢◌, ◌∙◌, ◌⊎◌, inl, inr, ℕ, ◌*◌, ◌<◌, ◌≤◌, ◌++◌, Bool, true, false, cond, List, [], ◌∷◌, length, Option, Some, None, refl, sym, ap, subst, All}
use Rattle.std.specs.Prelude.{bytes_eq, find, is_none, is_some, nat_le, nat_lt, option_and_then, option_map, slice_get, unwrap_or}
use Rattle.std.specs.Option.{option_or}
use Rattle.std.proofs.lemmas.Bool.{cases_lt, false_from_ne_true, le-leb, le-ltb, leb-true, lt-leb, lt-ltb, ltb-true, true≢false}
use Rattle.std.proofs.lemmas.List.Elements.{All-cons, All-head, All-nil, All-tail, All-weaker}
use Rattle.std.proofs.lemmas.Option.{none-some, same_Some}
use Rattle.fund_base.specs.declared.outpoint.OutPoint.{OutPoint}
use Rattle.tx_codec.specs.Transaction.{Transaction}
use Rattle.tx_codec.specs.Txid.{txid_of}
use Rattle.tx_codec.specs.Weight.{weight_of}
use Rattle.fee_rates.specs.Fee.{vsize_of}
use Rattle.wallet_text.specs.PlainWallet.{PlainWallet}
use Rattle.wallet_text.specs.WalletRules.{IsWallet}
use Rattle.request_text.specs.PlainRequest.{PlainRequest}
use Rattle.coin_book.specs.History.{History}
use Rattle.payment_states.specs.Candidates.{is_pending, is_pending_state}
use Rattle.payment_states.specs.Causes.{HasCause}
use Rattle.payment_states.specs.Payments.{payments_in, payments_of, state_at, state_of}
use Rattle.payment_states.specs.PendingView.{PendingView, place_in, tx_at, view_of}
use Rattle.payment_states.specs.declared.state.Payment.{Payment}
use Rattle.payment_states.specs.declared.state.State.{State}
use Rattle.payment_states.specs.declared.state.State.TheVariants as state
use Rattle.payment_states.proofs.CauseSteps.{cause_is, is_cause}
use Rattle.payment_states.proofs.FactSteps.{place_is}
use Rattle.payment_states.proofs.LookSteps.{none_is, own_is}
use Rattle.payment_states.proofs.NumberSteps.{waits, waits_back}
use Rattle.payment_states.proofs.Order.{found_place}
use Rattle.payment_states.proofs.ParentSteps.{own_place}
use Rattle.known_fees.proofs.Positions.{find_by_place}
use Rattle.known_fees.specs.Worth.{fee_in, worth_of}
use Rattle.fee_bump.specs.Bump.{payment_place, replaced_at}
use Rattle.fee_bump.specs.Faults.{can_be_replaced, count_fault, fault_of, foreign_in, input_fault, points_of, rate_fault, signal_fault, state_fault}
use Rattle.known_fees.specs.Worth.{IsKnown}
use Rattle.fee_bump.specs.Meant.{CanReplace, IsBumpFault, IsFirstForeign, IsNamed, IsOffered, IsReckoned}
use Rattle.fee_bump.specs.declared.fault.BumpFault.{BumpFault}
use Rattle.fee_bump.specs.declared.fault.BumpFault.TheVariants.{NotPending, NotSignalling, ForeignInput, TooManyEvicted, RateBelowIncrement, RateNotHigher, Memory}
use Rattle.fee_bump.proofs.GoesSteps.{known_back, known_told, may_back, may_told, not_none, not_some, one_replaced, unknown}

-- ---- the first that passes

record Split {X : Type 0} (p : X → Bool) (xs : List X) (x : X) : Type 0 where
  pub front : List X
  pub rest : List X
  pub parts : xs ≡ front ++ x ∷ rest
  pub before : All (λ y. p y ≡ false) front
  pub passes : p x ≡ true

split_found : {X : Type 0} (p : X → Bool) (xs : List X) (x : X) → find p xs ≡ Some x → Split p xs x
split_found p [] x e = absurd (none-some x e)
split_found {X = X} p (y ∷ xs) x e = by (p y) refl e (split_found p xs x)
  where
    by : (b : Bool) → p y ≡ b → cond b (Some y) (find p xs) ≡ Some x → (find p xs ≡ Some x → Split p xs x) → Split p (y ∷ xs) x
    by true is e r = let same = same_Some y x e in record { front = []; rest = xs; parts = ap (λ z. z ∷ xs) same; before = All-nil (λ z. p z ≡ false); passes = ap p (sym same) ∙ is }
    by false is e r =
        let s = r e in
        record { front = y ∷ s.front; rest = s.rest; parts = ap (λ l. y ∷ l) s.parts; before = All-cons (λ z. p z ≡ false) y s.front is s.before; passes = s.passes }

found_split : {X : Type 0} (p : X → Bool) (front rest : List X) (x : X) → All (λ y. p y ≡ false) front → p x ≡ true → find p (front ++ x ∷ rest) ≡ Some x
found_split {X = X} p [] rest x before passes = ap (λ b. cond b (Some x) (find p rest)) passes
found_split {X = X} p (y ∷ front) rest x before passes =
    ap (λ b. cond b (Some y) (find p (front ++ x ∷ rest))) (All-head (λ z. p z ≡ false) y front before) ∙ found_split p front rest x (All-tail (λ z. p z ≡ false) y front before) passes

none_found : {X : Type 0} (p : X → Bool) (xs : List X) → find p xs ≡ None → All (λ y. p y ≡ false) xs
none_found p [] e = All-nil (λ y. p y ≡ false)
none_found {X = X} p (x ∷ xs) e = by (p x) refl e (none_found p xs)
  where
    by : (b : Bool) → p x ≡ b → cond b (Some x) (find p xs) ≡ None → (find p xs ≡ None → All (λ y. p y ≡ false) xs) → All (λ y. p y ≡ false) (x ∷ xs)
    by true is e r = absurd (none-some x (sym e))
    by false is e r = All-cons (λ y. p y ≡ false) x xs is (r e)

found_none : {X : Type 0} (p : X → Bool) (xs : List X) → All (λ y. p y ≡ false) xs → find p xs ≡ None
found_none p [] h = refl
found_none {X = X} p (x ∷ xs) h = ap (λ b. cond b (Some x) (find p xs)) (All-head (λ y. p y ≡ false) x xs h) ∙ found_none p xs (All-tail (λ y. p y ≡ false) x xs h)

other_state : (s : State) → s ≢ state.Pending → is_pending_state s ≡ false
other_state (state.Confirmed height) ne = refl
other_state (state.Conflicted by) ne = refl
other_state state.Abandoned ne = refl
other_state (state.Replaced by) ne = refl
other_state state.Pending ne = absurd (ne refl)

not_pending : (s : State) → is_pending_state s ≡ false → s ≢ state.Pending
not_pending s e same = true≢false (sym (ap is_pending_state same) ∙ e)

module _ (w : PlainWallet) (h : History) (r : PlainRequest) (rules : IsWallet w) where
  abbrev view : PendingView
  view = view_of w h

  abbrev gone : ℕ → List Transaction
  gone i = replaced_at view i

  abbrev fee : ℕ → ℕ
  fee i = fee_in h (gone i) (tx_at view i)

  abbrev size : ℕ → ℕ
  size i = vsize_of (weight_of (tx_at view i))

  -- ---- the payment that is named

  named_txid : (txid : List ℕ) → r.bump ≡ Some txid → unwrap_or r.bump [] ≡ txid
  named_txid txid asked = ap (λ (o : Option (List ℕ)). unwrap_or o []) asked

  by_state : (txid : List ℕ) (found : Option State) → r.bump ≡ Some txid → state_of (payments_in view) txid ≡ found → fault_of w h r ≡ state_fault w h r found
  unfolding fault_of payments_of
  by_state txid found asked is = ap (λ (t : List ℕ). state_fault w h r (state_of (payments_in view) t)) (named_txid txid asked) ∙ ap (λ (o : Option State). state_fault w h r o) is

  -- the one at a place
  at_place : (i : ℕ) (txid : List ℕ) → r.bump ≡ Some txid → i < length w.pending → txid_of (tx_at view i) ≡ txid
      → fault_of w h r ≡ cond (is_pending view i) (signal_fault w h r i) (Some (NotPending (Some (state_at view i))))
  at_place i txid asked lt name =
      by_state txid (Some (state_at view i)) asked (ap (λ (t : List ℕ). state_of (payments_in view) t) (sym name) ∙ own_is view i rules.pending_distinct lt)
      ∙ ap (λ (k : ℕ). cond (is_pending view i) (signal_fault w h r k) (Some (NotPending (Some (state_at view i)))))
      (ap (λ (t : List ℕ). unwrap_or (place_in w.pending t) (length w.pending)) (named_txid txid asked)
      ∙ ap (λ (o : Option ℕ). unwrap_or o (length w.pending)) (own_place view i txid rules.pending_distinct lt (sym name)))

  pub own_payment : (i : ℕ) (txid : List ℕ) → r.bump ≡ Some txid → i < length w.pending → txid_of (tx_at view i) ≡ txid → payment_place view r ≡ i
  own_payment i txid asked lt name =
      ap (λ (t : List ℕ). unwrap_or (place_in w.pending t) (length w.pending)) (named_txid txid asked)
      ∙ ap (λ (o : Option ℕ). unwrap_or o (length w.pending)) (own_place view i txid rules.pending_distinct lt (sym name))

  -- it stands in the list, or nothing of its txid does
  place_cases : (txid : List ℕ) → ((i : ℕ) × (i < length w.pending) × (txid_of (tx_at view i) ≡ txid)) ⊎ (state_of (payments_in view) txid ≡ None)
  place_cases txid = by (place_in w.pending txid) refl
    where
      by_place : state_of (payments_in view) txid ≡ option_map (λ (p : Payment). p.state) (option_and_then (slice_get (payments_in view)) (place_in w.pending txid))
      by_place =
          ap (λ (o : Option Payment). option_map (λ (p : Payment). p.state) o)
          (sym (find_by_place (λ (p : Payment). bytes_eq txid p.txid) (payments_in view)) ∙ ap (λ (o : Option ℕ). option_and_then (slice_get (payments_in view)) o) (place_is view txid))

      by : (o : Option ℕ) → place_in w.pending txid ≡ o → ((i : ℕ) × (i < length w.pending) × (txid_of (tx_at view i) ≡ txid)) ⊎ (state_of (payments_in view) txid ≡ None)
      by (Some i) e = let f = found_place w.pending txid i e in inl (i, f.0, sym f.1)
      by None e = inr (by_place ∙ ap (λ (o : Option ℕ). option_map (λ (p : Payment). p.state) (option_and_then (slice_get (payments_in view)) o)) e)

  -- ---- from what is meant

  -- a Pending one
  past_state : (i : ℕ) → IsNamed view r i → HasCause view i state.Pending → fault_of w h r ≡ signal_fault w h r i
  past_state i n waiting =
      at_place i n.txid n.asked n.stands n.txid_is
      ∙ ap (λ b. cond b (signal_fault w h r i) (Some (NotPending (Some (state_at view i))))) (waits_back view rules.pending_distinct rules.parents i n.stands waiting)

  -- that may be replaced
  past_signals : (i : ℕ) → IsOffered view r i → fault_of w h r ≡ input_fault w h r i
  past_signals i o =
      past_state i o.named o.waits ∙ ap (λ b. cond b (input_fault w h r i) (Some NotSignalling)) (may_back view rules.pending_distinct rules.parents i o.named.stands o.signals)

  -- whose inputs are known
  past_inputs : (i : ℕ) → IsReckoned w h r i → fault_of w h r ≡ count_fault r (length (gone i)) (fee i) (size i)
  unfolding foreign_in
  past_inputs i k =
      past_signals i k.offered
      ∙ ap (λ (o : Option OutPoint). option_or (option_map ForeignInput o) (count_fault r (length (gone i)) (fee i) (size i)))
      (found_none (λ o. is_none (worth_of h (gone i) o)) (points_of (gone i))
      (All-weaker (IsKnown h (gone i)) (λ o. is_none (worth_of h (gone i) o) ≡ false) (λ o known. not_none (worth_of h (gone i) o) (known_back h (gone i) o (one_replaced view rules.pending_distinct rules.parents i) known)) (points_of (gone i)) k.known))

  past_count : (i : ℕ) → IsReckoned w h r i → length (gone i) ≤ 100 → fault_of w h r ≡ rate_fault r (fee i) (size i)
  past_count i k few = past_inputs i k ∙ ap (λ b. cond b (Some (TooManyEvicted (length (gone i)))) (rate_fault r (fee i) (size i))) (le-ltb 100 (length (gone i)) few)

  pub bump_found : (fault : BumpFault) → fault ≢ Memory → IsBumpFault w h r fault → fault_of w h r ≡ Some fault
  unfolding foreign_in
  bump_found (NotPending None) real (txid, asked, none) = by_state txid None asked ((none_is view txid).1 none)
  bump_found (NotPending (Some s)) real (i, n, cause, other) =
      let is = is_cause view rules.pending_distinct rules.parents i s n.stands cause in
      at_place i n.txid n.asked n.stands n.txid_is
      ∙ ap (λ b. cond b (signal_fault w h r i) (Some (NotPending (Some (state_at view i))))) (ap is_pending_state is ∙ other_state s other)
      ∙ ap (λ (t : State). Some (NotPending (Some t))) is
  bump_found NotSignalling real (i, n, waiting, none) =
      past_state i n waiting
      ∙ ap (λ b. cond b (input_fault w h r i) (Some NotSignalling)) (false_from_ne_true (can_be_replaced view i) (λ e. none (may_told view rules.pending_distinct rules.parents i n.stands e)))
  bump_found (ForeignInput o) real (i, offered, first) =
      past_signals i offered
      ∙ ap (λ (x : Option OutPoint). option_or (option_map ForeignInput x) (count_fault r (length (gone i)) (fee i) (size i)))
      (ap (find (λ o. is_none (worth_of h (gone i) o))) first.parts
      ∙ found_split (λ o. is_none (worth_of h (gone i) o)) first.front first.rest o
      (All-weaker (IsKnown h (gone i)) (λ o. is_none (worth_of h (gone i) o) ≡ false) (λ o known. not_none (worth_of h (gone i) o) (known_back h (gone i) o (one_replaced view rules.pending_distinct rules.parents i) known)) first.front first.before)
      (foreign_is (worth_of h (gone i) o) (λ s. first.foreign (known_told h (gone i) o s))))
    where
      foreign_is : (x : Option ℕ) → (is_some x ≡ true → ⊥) → is_none x ≡ true
      foreign_is None never = refl
      foreign_is (Some n) never = absurd (never refl)
  bump_found (TooManyEvicted n) real (i, k, count, many) =
      past_inputs i k
      ∙ ap (λ b. cond b (Some (TooManyEvicted (length (gone i)))) (rate_fault r (fee i) (size i))) (lt-ltb 100 (length (gone i)) (subst (λ m. 100 < m) count many))
      ∙ ap (λ m. Some (TooManyEvicted m)) (sym count)
  bump_found RateBelowIncrement real (i, k, few, low) =
      past_count i k few
      ∙ ap (λ b. cond b (Some RateBelowIncrement) (cond (nat_le (r.rate * size i) (1000 * fee i)) (Some (RateNotHigher (fee i) (size i))) None)) (lt-ltb r.rate 1000 low)
  bump_found (RateNotHigher f v) real (i, k, few, high, fee_is, size_is, le) =
      past_count i k few
      ∙ ap (λ b. cond b (Some RateBelowIncrement) (cond (nat_le (r.rate * size i) (1000 * fee i)) (Some (RateNotHigher (fee i) (size i))) None)) (le-ltb r.rate 1000 high)
      ∙ ap (λ b. cond b (Some (RateNotHigher (fee i) (size i))) None) (le-leb (r.rate * size i) (1000 * fee i) (subst (λ m. m ≤ 1000 * fee i) (ap (λ m. r.rate * m) size_is) (subst (λ m. r.rate * v ≤ 1000 * m) fee_is le)))
      ∙ (λ j. Some (RateNotHigher (sym fee_is j) (sym size_is j)))
  bump_found Memory real is = absurd (real refl)

  -- ---- from what is worked out

  offered_at : (i : ℕ) → IsNamed view r i → is_pending view i ≡ true → can_be_replaced view i ≡ true → IsOffered view r i
  offered_at i n on can = record {
    named = n;
    waits = waits view rules.pending_distinct rules.parents i n.stands on;
    signals = may_told view rules.pending_distinct rules.parents i n.stands can;
  }

  all_known : (i : ℕ) → foreign_in h (gone i) ≡ None → All (IsKnown h (gone i)) (points_of (gone i))
  unfolding foreign_in
  all_known i e =
      All-weaker (λ o. is_none (worth_of h (gone i) o) ≡ false) (IsKnown h (gone i)) (λ o is. known_told h (gone i) o (not_some (worth_of h (gone i) o) is)) (points_of (gone i))
      (none_found (λ o. is_none (worth_of h (gone i) o)) (points_of (gone i)) e)

  -- what a result means, of the payment at a place
  abbrev Told : ℕ → Option BumpFault → Type 0
  Told i None = CanReplace w h r i
  Told i (Some fault) = fault ≢ Memory → IsBumpFault w h r fault

  by_rates : (i : ℕ) → IsReckoned w h r i → length (gone i) ≤ 100 → Told i (rate_fault r (fee i) (size i))
  by_rates i k few = by (nat_lt r.rate 1000) (nat_le (r.rate * size i) (1000 * fee i)) refl refl
    where
      at_least : (b : Bool) → nat_lt r.rate 1000 ≡ b → b ≡ false → 1000 ≤ r.rate
      at_least b e off = least (cases_lt r.rate 1000)
        where
          least : (r.rate < 1000) ⊎ (1000 ≤ r.rate) → 1000 ≤ r.rate
          least (inl lt) = absurd (true≢false (sym (lt-ltb r.rate 1000 lt) ∙ e ∙ off))
          least (inr le) = le

      above : nat_le (r.rate * size i) (1000 * fee i) ≡ false → 1000 * fee i < r.rate * size i
      above e = more (cases_lt (1000 * fee i) (r.rate * size i))
        where
          more : (1000 * fee i < r.rate * size i) ⊎ (r.rate * size i ≤ 1000 * fee i) → 1000 * fee i < r.rate * size i
          more (inl lt) = lt
          more (inr le) = absurd (true≢false (sym (le-leb (r.rate * size i) (1000 * fee i) le) ∙ e))

      by : (low not_higher : Bool) → nat_lt r.rate 1000 ≡ low → nat_le (r.rate * size i) (1000 * fee i) ≡ not_higher
          → Told i (cond low (Some RateBelowIncrement) (cond not_higher (Some (RateNotHigher (fee i) (size i))) None))
      by true n a b = λ real. (i, k, few, ltb-true r.rate 1000 a)
      by false true a b = λ real. (i, k, few, at_least false a refl, refl, refl, leb-true (r.rate * size i) (1000 * fee i) b)
      by false false a b = record { reckoned = k; few = few; increment = at_least false a refl; higher = above b }

  by_count : (i : ℕ) → IsReckoned w h r i → Told i (count_fault r (length (gone i)) (fee i) (size i))
  by_count i k = by (nat_lt 100 (length (gone i))) refl
    where
      few : nat_lt 100 (length (gone i)) ≡ false → length (gone i) ≤ 100
      few e = at (cases_lt 100 (length (gone i)))
        where
          at : (100 < length (gone i)) ⊎ (length (gone i) ≤ 100) → length (gone i) ≤ 100
          at (inl lt) = absurd (true≢false (sym (lt-ltb 100 (length (gone i)) lt) ∙ e))
          at (inr le) = le

      by : (b : Bool) → nat_lt 100 (length (gone i)) ≡ b → Told i (cond b (Some (TooManyEvicted (length (gone i)))) (rate_fault r (fee i) (size i)))
      by true e = λ real. (i, k, refl, ltb-true 100 (length (gone i)) e)
      by false e = by_rates i k (few e)

  first_at : (i : ℕ) (x : OutPoint) → foreign_in h (gone i) ≡ Some x → IsFirstForeign h (gone i) x
  unfolding foreign_in
  first_at i x e =
      let s = split_found (λ p. is_none (worth_of h (gone i) p)) (points_of (gone i)) x e in
      record {
        front = s.front;
        rest = s.rest;
        parts = s.parts;
        before = All-weaker (λ p. is_none (worth_of h (gone i) p) ≡ false) (IsKnown h (gone i)) (λ p is. known_told h (gone i) p (not_some (worth_of h (gone i) p) is)) s.front s.before;
        foreign = λ known. unknown (worth_of h (gone i) x) s.passes (known_back h (gone i) x (one_replaced view rules.pending_distinct rules.parents i) known);
      }

  by_inputs : (i : ℕ) → IsOffered view r i → Told i (input_fault w h r i)
  by_inputs i o = by (foreign_in h (gone i)) refl
    where
      by : (f : Option OutPoint) → foreign_in h (gone i) ≡ f → Told i (option_or (option_map ForeignInput f) (count_fault r (length (gone i)) (fee i) (size i)))
      by (Some x) e = λ real. (i, o, first_at i x e)
      by None e = by_count i (record { offered = o; known = all_known i e })

  by_signals : (i : ℕ) → IsNamed view r i → is_pending view i ≡ true → Told i (signal_fault w h r i)
  by_signals i n on = by (can_be_replaced view i) refl
    where
      by : (b : Bool) → can_be_replaced view i ≡ b → Told i (cond b (input_fault w h r i) (Some NotSignalling))
      by true e = by_inputs i (offered_at i n on e)
      by false e = λ real. (i, n, waits view rules.pending_distinct rules.parents i n.stands on, λ may. true≢false (sym (may_back view rules.pending_distinct rules.parents i n.stands may) ∙ e))

  by_place : (i : ℕ) → IsNamed view r i → Told i (cond (is_pending view i) (signal_fault w h r i) (Some (NotPending (Some (state_at view i)))))
  by_place i n = by (is_pending view i) refl
    where
      by : (b : Bool) → is_pending view i ≡ b → Told i (cond b (signal_fault w h r i) (Some (NotPending (Some (state_at view i)))))
      by true e = by_signals i n e
      by false e = λ real. (i, n, cause_is view rules.pending_distinct rules.parents i n.stands, not_pending (state_at view i) e)

  told : (txid : List ℕ) → r.bump ≡ Some txid → Told (payment_place view r) (fault_of w h r)
  told txid asked = by (place_cases txid)
    where
      by : ((i : ℕ) × (i < length w.pending) × (txid_of (tx_at view i) ≡ txid)) ⊎ (state_of (payments_in view) txid ≡ None) → Told (payment_place view r) (fault_of w h r)
      by (inl (i, lt, name)) =
          subst (λ (k : ℕ). Told k (fault_of w h r)) (sym (own_payment i txid asked lt name))
          (subst (λ (o : Option BumpFault). Told i o) (sym (at_place i txid asked lt name)) (by_place i (record { txid = txid; asked = asked; stands = lt; txid_is = name })))
      by (inr none) =
          subst (λ (o : Option BumpFault). Told (payment_place view r) o) (sym (by_state txid None asked none)) (λ real. (txid, asked, (none_is view txid).0 none))

  pub bump_means : (txid : List ℕ) (fault : BumpFault) → r.bump ≡ Some txid → fault ≢ Memory → fault_of w h r ≡ Some fault → IsBumpFault w h r fault
  bump_means txid fault asked real e = subst (λ (o : Option BumpFault). Told (payment_place view r) o) e (told txid asked) real

  pub bump_free : (i : ℕ) → CanReplace w h r i → fault_of w h r ≡ None
  bump_free i k =
      past_count i k.reckoned k.few
      ∙ ap (λ b. cond b (Some RateBelowIncrement) (cond (nat_le (r.rate * size i) (1000 * fee i)) (Some (RateNotHigher (fee i) (size i))) None)) (le-ltb r.rate 1000 k.increment)
      ∙ ap (λ b. cond b (Some (RateNotHigher (fee i) (size i))) None) (lt-leb (r.rate * size i) (1000 * fee i) k.higher)

  pub bump_clear : (txid : List ℕ) → r.bump ≡ Some txid → fault_of w h r ≡ None → CanReplace w h r (payment_place view r)
  bump_clear txid asked e = subst (λ (o : Option BumpFault). Told (payment_place view r) o) e (told txid asked)
