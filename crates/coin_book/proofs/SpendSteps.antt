-- What is listed of the transactions that spend an outpoint is exactly what the chain holds of them.
use Rattle.std.proofs.Common.{◌≡◌, ◌≢◌, ◌∙◌, ◌⊎◌, inl, inr, ℕ, zero, suc, ◌<◌, Bool, true, false, cond, ◌&&◌, List, [], ◌∷◌, ◌++◌, length, take, get_or, Option, Some, None, All, Contains, refl, sym, ap, subst, arith, true≢false, slice_get}
use Rattle.std.specs.Prelude.{bytes_eq, is_some, not, option_and_then, ◌↔◌}
use Rattle.std.specs.List.{AllPairs, Any, list_any}
use Rattle.std.specs.Option.{option_to_list}
use Rattle.std.proofs.lemmas.Bool.{cases_order, false_from_ne_true}
use Rattle.std.proofs.lemmas.List.{append-nil, get_or_default}
use Rattle.std.proofs.lemmas.List.Elements.{Contains-append_cases, Contains-append_left, Contains-append_right}
use Rattle.std.proofs.lemmas.List.Folds.{Any-from_list_any, list_any-from_Any, list_any_at, list_any_none}
use Rattle.std.proofs.lemmas.List.Quantifiers.{all_pairs_push}
use Rattle.std.proofs.lemmas.Option.{slice_get_within}
use Rattle.std.proofs.lemmas.Slice.Eq.{bytes_eq-Decides}
use Rattle.fund_base.proofs.Lists.{found_some}
use Rattle.fund_base.specs.Outpoints.{same_outpoint}
use Rattle.fund_base.specs.declared.outpoint.OutPoint.{OutPoint}
use Rattle.fund_base.proofs.OutpointLaws.{same_outpoint-Decides}
use Rattle.tx_codec.specs.declared.tx.TxIn.{TxIn}
use Rattle.tx_codec.specs.Txid.{txid_of}
use Rattle.coin_book.specs.History.{Confirmed}
use Rattle.coin_book.specs.Spends.{IsSpendOf, has_input, has_spender, height_of, spend_at, spend_by, spends_below, spends_of}
use Rattle.coin_book.specs.declared.coin.Spend.{Spend}

-- ---- txids in the chain

has_height : (chain : List Confirmed) (t : List ℕ) → is_some (height_of chain t) ≡ list_any (λ (c : Confirmed). bytes_eq (txid_of c.tx) t) chain
unfolding height_of
has_height chain t = found_some (λ (c : Confirmed). bytes_eq (txid_of c.tx) t) (λ (c : Confirmed). c.height) chain

pub none_before : (chain : List Confirmed) (t : List ℕ) → is_some (height_of chain t) ≡ false → All (λ (c : Confirmed). txid_of c.tx ≢ t) chain
none_before chain t none = λ k d lt same.
    true≢false (sym (has_height chain t ∙ list_any_at (λ (c : Confirmed). bytes_eq (txid_of c.tx) t) chain k d lt ((bytes_eq-Decides (txid_of (get_or chain k d).tx) t).1 same)) ∙ none)

pub not_known : (chain : List Confirmed) (t : List ℕ) → All (λ (c : Confirmed). txid_of c.tx ≢ t) chain → is_some (height_of chain t) ≡ false
not_known chain t apart =
    has_height chain t
    ∙ list_any_none (λ (c : Confirmed). bytes_eq (txid_of c.tx) t) chain (λ k d lt. false_from_ne_true (bytes_eq (txid_of (get_or chain k d).tx) t) (λ is. apart k d lt ((bytes_eq-Decides (txid_of (get_or chain k d).tx) t).0 is)))

-- ---- inputs

pub spends_by_one : (o : OutPoint) (inputs : List TxIn) → has_input o inputs ≡ true → Any (λ (i : TxIn). i.prev ≡ o) inputs
unfolding has_input
spends_by_one o inputs h =
    let a = Any-from_list_any (λ (i : TxIn). same_outpoint i.prev o) inputs h in
    (a.0, a.1, a.2, a.3, (same_outpoint-Decides a.1.prev o).0 a.4)

pub has_one : (o : OutPoint) (inputs : List TxIn) → Any (λ (i : TxIn). i.prev ≡ o) inputs → has_input o inputs ≡ true
unfolding has_input
has_one o inputs a = list_any-from_Any (λ (i : TxIn). same_outpoint i.prev o) inputs (a.0, a.1, a.2, a.3, (same_outpoint-Decides a.1.prev o).1 a.4)

-- ---- who spends it before

both_true : (a b : Bool) → (a && b) ≡ true → (a ≡ true) × (b ≡ true)
both_true true b e = (refl, e)
both_true false b e = absurd (true≢false (sym e))

abbrev SpendsToo : OutPoint → List ℕ → Confirmed → Type 0
SpendsToo o t c = txid_of c.tx ≡ t → Any (λ (i : TxIn). i.prev ≡ o) c.tx.inputs → ⊥

pub none_spends : (chain : List Confirmed) (o : OutPoint) (t : List ℕ) → has_spender chain o t ≡ false → All (SpendsToo o t) chain
unfolding has_spender
none_spends chain o t none = λ k d lt same spends.
    let c = get_or chain k d in
    true≢false (sym (list_any_at (λ (c : Confirmed). bytes_eq (txid_of c.tx) t && has_input o c.tx.inputs) chain k d lt (λ j. (bytes_eq-Decides (txid_of c.tx) t).1 same j && has_one o c.tx.inputs spends j)) ∙ none)

pub no_spender : (chain : List Confirmed) (o : OutPoint) (t : List ℕ) → All (SpendsToo o t) chain → has_spender chain o t ≡ false
unfolding has_spender
no_spender chain o t apart =
    list_any_none (λ (c : Confirmed). bytes_eq (txid_of c.tx) t && has_input o c.tx.inputs) chain
    (λ k d lt. let c = get_or chain k d in
    false_from_ne_true (bytes_eq (txid_of c.tx) t && has_input o c.tx.inputs)
    (λ is. let p = both_true (bytes_eq (txid_of c.tx) t) (has_input o c.tx.inputs) is in apart k d lt ((bytes_eq-Decides (txid_of c.tx) t).0 p.0) (spends_by_one o c.tx.inputs p.1)))

-- ---- one place

abbrev told : ℕ → Confirmed → Spend
told n c = record { txid = txid_of c.tx; height = c.height; place = n }

-- what is listed of a transaction is of one that spends the outpoint, the first of its txid
this_one : (chain : List Confirmed) (o : OutPoint) (n : ℕ) (c : Confirmed) (s : Spend) → slice_get chain n ≡ Some c → spend_by chain o n c ≡ Some s → IsSpendOf chain o s × (s.place ≡ n)
this_one chain o n c s at is = by (has_input o c.tx.inputs) (has_spender (take n chain) o (txid_of c.tx)) refl refl is
  where
    by : (b known : Bool) → has_input o c.tx.inputs ≡ b → has_spender (take n chain) o (txid_of c.tx) ≡ known → cond (b && not known) (Some (told n c)) None ≡ Some s → IsSpendOf chain o s × (s.place ≡ n)
    by true false e f is =
        let same : told n c ≡ s = cc in
        subst (λ (x : Spend). IsSpendOf chain o x × (x.place ≡ n)) same
        (record { by = c; stands = at; txid_is = refl; height_is = refl; spends = spends_by_one o c.tx.inputs e; first = none_spends (take n chain) o (txid_of c.tx) f }, refl)
    by true true e f is = absurd cc
    by false known e f is = absurd cc

pub at_place : (chain : List Confirmed) (o : OutPoint) (n : ℕ) (s : Spend) → spend_at chain o n ≡ Some s → IsSpendOf chain o s × (s.place ≡ n)
unfolding spend_at
at_place chain o n s is = by (slice_get chain n) refl is
  where
    by : (c : Option Confirmed) → slice_get chain n ≡ c → option_and_then (spend_by chain o n) c ≡ Some s → IsSpendOf chain o s × (s.place ≡ n)
    by None e is = absurd cc
    by (Some c) e is = this_one chain o n c s e is

-- such a one is listed at its place
pub told_at : (chain : List Confirmed) (o : OutPoint) (s : Spend) → IsSpendOf chain o s → spend_at chain o s.place ≡ Some s
unfolding spend_at
told_at chain o s h =
    ap (option_and_then (spend_by chain o s.place)) h.stands
    ∙ ap (λ (b : Bool). cond (b && not (has_spender (take s.place chain) o (txid_of h.by.tx))) (Some (told s.place h.by)) None) (has_one o h.by.tx.inputs h.spends)
    ∙ ap (λ (b : Bool). cond (not b) (Some (told s.place h.by)) None) (no_spender (take s.place chain) o (txid_of h.by.tx) (subst (λ (t : List ℕ). All (SpendsToo o t) (take s.place chain)) h.txid_is h.first))
    ∙ ap (λ (t : List ℕ). Some (record { txid = t; height = h.by.height; place = s.place })) (sym h.txid_is)
    ∙ ap (λ (n : ℕ). Some (record { txid = s.txid; height = n; place = s.place })) (sym h.height_is)

-- ---- all places

-- what is the list of one that may be there
pub some_is : {X : Type 0} (found : Option X) (s : X) → Contains (option_to_list found) s → found ≡ Some s
some_is None s c = let lt = c.1 in absurd (omega arith)
some_is (Some x) s c = by c.0 c.1 c.2
  where
    by : (k : ℕ) → k < length (x ∷ []) → get_or (x ∷ []) k s ≡ s → Some x ≡ Some s
    by zero lt e = ap Some e
    by (suc k) lt e = absurd (omega arith)

below_is : (chain : List Confirmed) (o : OutPoint) (n : ℕ) (s : Spend) → Contains (spends_below chain o n) s → IsSpendOf chain o s × (s.place < n)
unfolding spends_below
below_is chain o zero s c = let lt = c.1 in absurd (omega arith)
below_is chain o (suc n) s c = by (below_is chain o n s) (Contains-append_cases (spends_below chain o n) (option_to_list (spend_at chain o n)) s c)
  where
    by : (Contains (spends_below chain o n) s → IsSpendOf chain o s × (s.place < n)) → Contains (spends_below chain o n) s ⊎ Contains (option_to_list (spend_at chain o n)) s → IsSpendOf chain o s × (s.place < suc n)
    by before (inl c) = let h = before c in let lt = h.1 in (h.0, omega arith)
    by before (inr c) = let h = at_place chain o n s (some_is (spend_at chain o n) s c) in let e = h.1 in (h.0, omega arith)

below_has : (chain : List Confirmed) (o : OutPoint) (n : ℕ) (s : Spend) → spend_at chain o s.place ≡ Some s → s.place < n → Contains (spends_below chain o n) s
unfolding spends_below
below_has chain o zero s is lt = absurd (omega arith)
below_has chain o (suc n) s is lt = by (below_has chain o n s is) (cases_order s.place n)
  where
    last : s.place ≡ n → Contains (option_to_list (spend_at chain o n)) s
    last e = subst (λ (found : Option Spend). Contains (option_to_list found) s) (sym (ap (spend_at chain o) (sym e) ∙ is)) (0, omega arith, refl)

    by : (s.place < n → Contains (spends_below chain o n) s) → (s.place ≡ n) ⊎ ((s.place < n) ⊎ (n < s.place)) → Contains (spends_below chain o n ++ option_to_list (spend_at chain o n)) s
    by before (inl e) = Contains-append_right (spends_below chain o n) (option_to_list (spend_at chain o n)) s (last e)
    by before (inr (inl b)) = Contains-append_left (spends_below chain o n) (option_to_list (spend_at chain o n)) s (before b)
    by before (inr (inr b)) = absurd (omega arith)

abbrev IsEarlier : Spend → Spend → Type 0
IsEarlier a b = a.place < b.place

rising : (chain : List Confirmed) (o : OutPoint) (n : ℕ) → AllPairs IsEarlier (spends_below chain o n)
unfolding spends_below
rising chain o zero = λ i j d lt below. absurd (omega arith)
rising chain o (suc n) = by (spend_at chain o n) refl (rising chain o n)
  where
    by : (found : Option Spend) → spend_at chain o n ≡ found → AllPairs IsEarlier (spends_below chain o n) → AllPairs IsEarlier (spends_below chain o n ++ option_to_list found)
    by None e h = subst (AllPairs IsEarlier) (sym (append-nil (spends_below chain o n))) h
    by (Some s) e h =
        all_pairs_push IsEarlier (spends_below chain o n) s h
        (λ k d lt. let x = get_or (spends_below chain o n) k d in
        let here = at_place chain o n s e in
        let p = here.1 in
        let before = below_is chain o n x (k, lt, get_or_default (spends_below chain o n) k x d lt) in
        let q = before.1 in
        omega arith)

-- ---- what a book tells

pub spends_are : (chain : List Confirmed) (o : OutPoint) (s : Spend) → Contains (spends_of chain o) s ↔ IsSpendOf chain o s
spends_are chain o s = (there, back)
  where
    there : Contains (spends_of chain o) s → IsSpendOf chain o s
    there c = (below_is chain o (length chain) s c).0

    back : IsSpendOf chain o s → Contains (spends_of chain o) s
    back h = below_has chain o (length chain) s (told_at chain o s h) (slice_get_within chain s.place h.by h.stands)

pub spends_rise : (chain : List Confirmed) (o : OutPoint) → AllPairs (λ (a b : Spend). a.place < b.place) (spends_of chain o)
spends_rise chain o = rising chain o (length chain)
