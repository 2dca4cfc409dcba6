-- What the chain spends.
use Rattle.std.proofs.Common.{◌≡◌, ◌∙◌, ◌⊎◌, inl, inr, ℕ, zero, suc, ◌<◌, ◌≤◌, ◌&&◌, Bool, true, false, cond, not, List, [], ◌∷◌, ◌++◌, length, map, take, get_or, Option, Some, None, refl, sym, ap}
use Rattle.std.specs.Prelude.{find, is_some, option_map, option_and_then, slice_get, nat_eq, slice_index_or}
use Rattle.std.specs.Map.{lookup}
use Rattle.std.specs.Option.{option_or, option_to_list}
use Rattle.std.proofs.lemmas.Bool.{cases_eq, eq-eqb, ne_eqb, cases_lt}
use Rattle.std.proofs.lemmas.List.{get_or_past, length-map}
use Rattle.std.proofs.lemmas.Simd.{map-map}
use Rattle.std.proofs.lemmas.Option.{none-some, same_Some}
use Rattle.fund_base.specs.declared.outpoint.OutPoint.{OutPoint}
use Rattle.tx_codec.specs.Transaction.{Transaction}
use Rattle.tx_codec.specs.Txid.{txid_of}
use Rattle.tx_codec.specs.declared.tx.TxIn.{TxIn}
use Rattle.coin_book.specs.History.{Confirmed}
use Rattle.coin_book.specs.Spends.{has_input, has_spender, spend_at, spend_by, spends_below, spends_of}
use Rattle.coin_book.specs.declared.coin.Spend.{Spend}
use Rattle.payment_states.specs.Graph.{below, kin}
use Rattle.payment_states.specs.Least.{least_by, value_at}
use Rattle.payment_states.specs.Payments.{conflicts_at, conflict, txid_in}
use Rattle.payment_states.specs.ByPlace.{FindsTxid, first_conflict, first_place, place_if, view_by}
use Rattle.payment_states.specs.PendingView.{PendingView, kin_of, graph, no_tx, parents, tx_at}
use Rattle.payment_states.proofs.Below.{map_same}
use Rattle.payment_states.proofs.FirstSteps.{find_any, find_more, least_attained}
use Rattle.payment_states.proofs.LeastSteps.{least_agree}

-- ---- the first spend of an outpoint

-- a spend is of the transaction at its place
abbrev IsRight : List Confirmed → ℕ → Option Spend → Type 0
IsRight chain n s = (t : Spend) → s ≡ Some t → (t.place ≡ n) × (txid_in chain n ≡ Some t.txid)

right_by : (chain : List Confirmed) (o : OutPoint) (n : ℕ) (b : Bool) (c : Confirmed) → slice_get chain n ≡ Some c → (t : Spend)
    → cond b (Some (record { txid = txid_of c.tx; height = c.height; place = n })) None ≡ Some t → (t.place ≡ n) × (txid_in chain n ≡ Some t.txid)
right_by chain o n true c at t e =
    let s = same_Some (record { txid = txid_of c.tx; height = c.height; place = n }) t e in
    (ap (λ (u : Spend). u.place) (sym s), ap (option_map (λ (d : Confirmed). txid_of d.tx)) at ∙ ap (λ (u : Spend). Some u.txid) s)
right_by chain o n false c at t e = absurd (none-some t e)

spend_right : (chain : List Confirmed) (o : OutPoint) (n : ℕ) → IsRight chain n (spend_at chain o n)
unfolding spend_at
spend_right chain o n = by (slice_get chain n) refl
  where
    by : (r : Option Confirmed) → slice_get chain n ≡ r → IsRight chain n (option_and_then (spend_by chain o n) r)
    by None at t e = absurd (none-some t e)
    by (Some c) at t e = right_by chain o n (has_input o c.tx.inputs && not (has_spender (take n chain) o (txid_of c.tx))) c at t e

head_append : {X : Type 0} (xs ys : List X) → slice_get (xs ++ ys) 0 ≡ option_or (slice_get xs 0) (slice_get ys 0)
head_append [] ys = refl
head_append (x ∷ xs) ys = refl

-- the first spend stands at the first place that spends
first_below : (chain : List Confirmed) (o : OutPoint) (n : ℕ) → option_map (λ (s : Spend). s.place) (slice_get (spends_below chain o n) 0) ≡ find (λ k. is_some (spend_at chain o k)) (below n)
unfolding spends_below below
first_below chain o zero = refl
first_below chain o (suc n) =
    ap (option_map (λ (s : Spend). s.place)) (head_append (spends_below chain o n) (option_to_list (spend_at chain o n)))
    ∙ by (slice_get (spends_below chain o n) 0) (spend_at chain o n) (spend_right chain o n)
    ∙ ap (λ r. option_or r (place_if (is_some (spend_at chain o n)) n)) (first_below chain o n)
    ∙ sym (find_more (λ k. is_some (spend_at chain o k)) n)
  where
    by : (r s : Option Spend) → IsRight chain n s → option_map (λ (t : Spend). t.place) (option_or r (slice_get (option_to_list s) 0)) ≡ option_or (option_map (λ (t : Spend). t.place) r) (place_if (is_some s) n)
    by (Some t) s h = refl
    by None None h = refl
    by None (Some t) h = ap (λ k. Some k) (h t refl).0

pub first_place_is : (chain : List Confirmed) (o : OutPoint) → first_place chain o ≡ find (λ k. is_some (spend_at chain o k)) (below (length chain))
first_place_is chain o = first_below chain o (length chain)

-- and its txid is that of its place
head_right : (chain : List Confirmed) (o : OutPoint) (n : ℕ) (s : Spend) → slice_get (spends_below chain o n) 0 ≡ Some s → txid_in chain s.place ≡ Some s.txid
unfolding spends_below
head_right chain o zero s e = absurd (none-some s e)
head_right chain o (suc n) s e =
    by (slice_get (spends_below chain o n) 0) (spend_at chain o n) (spend_right chain o n) (λ h. head_right chain o n s h) (sym (head_append (spends_below chain o n) (option_to_list (spend_at chain o n))) ∙ e)
  where
    by : (r t : Option Spend) → IsRight chain n t → (r ≡ Some s → txid_in chain s.place ≡ Some s.txid) → option_or r (slice_get (option_to_list t) 0) ≡ Some s → txid_in chain s.place ≡ Some s.txid
    by (Some u) t h rest e = rest e
    by None None h rest e = absurd (none-some s e)
    by None (Some u) h rest e = let f = h s e in ap (txid_in chain) f.0 ∙ f.1

-- ---- the txids that are noted

-- a txid is noted under its place
pub noted : (chain : List Confirmed) (o : OutPoint) (s : Spend) (names new : List (ℕ × List ℕ)) → slice_get (spends_of chain o) 0 ≡ Some s
    → ((q : ℕ) → lookup (nat_eq q) new ≡ cond (nat_eq s.place q) (Some s.txid) (lookup (nat_eq q) names))
    → (k : ℕ) → (s.place ≡ k → FindsTxid chain new k) × (FindsTxid chain names k → FindsTxid chain new k)
noted chain o s names new first put k = by (cases_eq s.place k)
  where
    own : s.place ≡ k → FindsTxid chain new k
    own e = put k ∙ ap (λ b. cond b (Some s.txid) (lookup (nat_eq k) names)) (eq-eqb s.place k e) ∙ sym (head_right chain o (length chain) s first) ∙ ap (txid_in chain) e

    by : (s.place ≡ k) ⊎ (s.place ≡ k → ⊥) → (s.place ≡ k → FindsTxid chain new k) × (FindsTxid chain names k → FindsTxid chain new k)
    by (inl e) = (own, λ h. own e)
    by (inr ne) = (own, λ h. put k ∙ ap (λ b. cond b (Some s.txid) (lookup (nat_eq k) names)) (ne_eqb s.place k ne) ∙ h)

-- ---- conflicts

-- the first place at which a transaction has a conflict
conflicts_at_is : (chain : List Confirmed) (t : Transaction) → find (conflicts_at chain t) (below (length chain)) ≡ first_conflict chain t.inputs
conflicts_at_is chain t =
    find_any (λ (i : TxIn) k. is_some (spend_at chain i.prev k)) t.inputs (length chain)
    ∙ least_agree (λ (i : TxIn). find (λ k. is_some (spend_at chain i.prev k)) (below (length chain))) (λ (i : TxIn). first_place chain i.prev) t.inputs (λ i c. sym (first_place_is chain i.prev))

abbrev pub own_of : List Confirmed → List Transaction → List (Option ℕ)
own_of chain pending = map (λ (t : Transaction). first_conflict chain t.inputs) pending

own_at : (chain : List Confirmed) (pending : List Transaction) (j : ℕ) → value_at (own_of chain pending) j ≡ first_conflict chain (get_or pending j no_tx).inputs
own_at chain [] j = refl
own_at chain (t ∷ pending) zero = refl
own_at chain (t ∷ pending) (suc j) = own_at chain pending j

-- the first place at which it or an ancestor has a conflict
pub conflict_is : (chain : List Confirmed) (pending : List Transaction) (i : ℕ) → least_by (value_at (own_of chain pending)) (kin (graph (view_by chain pending [])) i) ≡ conflict (view_by chain pending []) i
unfolding conflict
conflict_is chain pending i =
    let w = view_by chain pending [] in
    least_agree (value_at (own_of chain pending)) (λ j. find (conflicts_at chain (tx_at w j)) (below (length chain))) (kin_of w i) (λ j c. own_at chain pending j ∙ sym (conflicts_at_is chain (tx_at w j)))
    ∙ sym (find_any (λ j. conflicts_at chain (tx_at w j)) (kin_of w i) (length chain))

-- its txid is noted, where those of all are
pub conflict_told : (chain : List Confirmed) (pending : List Transaction) (names : List (ℕ × List ℕ)) (i k : ℕ)
    → ((j m : ℕ) (d : Transaction) → j < length pending → first_conflict chain (slice_index_or pending j d).inputs ≡ Some m → FindsTxid chain names m)
    → least_by (value_at (own_of chain pending)) (kin (graph (view_by chain pending [])) i) ≡ Some k → FindsTxid chain names k
conflict_told chain pending names i k told e =
    let a = least_attained (value_at (own_of chain pending)) (kin (graph (view_by chain pending [])) i) k e in
    by a.0 (sym (own_at chain pending a.0) ∙ a.2) (cases_lt a.0 (length pending))
  where
    by : (j : ℕ) → first_conflict chain (get_or pending j no_tx).inputs ≡ Some k → (j < length pending) ⊎ (length pending ≤ j) → FindsTxid chain names k
    by j h (inl lt) = told j k no_tx lt h
    by j h (inr le) = absurd (none-some k (sym (ap (λ (t : Transaction). first_conflict chain t.inputs) (get_or_past pending j no_tx le)) ∙ h))

-- the txids that are noted under the least places
pub conflicts_are : (chain : List Confirmed) (pending : List Transaction) (g : List (List ℕ)) (own : List (Option ℕ)) (names : List (ℕ × List ℕ)) → g ≡ graph (view_by chain pending []) → own ≡ own_of chain pending
    → ((j m : ℕ) (d : Transaction) → j < length pending → first_conflict chain (slice_index_or pending j d).inputs ≡ Some m → FindsTxid chain names m)
    → map (option_and_then (λ k. lookup (nat_eq k) names)) (map (λ i. least_by (value_at own) (kin g i)) (below (length g)))
    ≡ map (λ i. option_and_then (txid_in chain) (conflict (view_by chain pending []) i)) (below (length pending))
conflicts_are chain pending g own names g_is own_is told =
    (λ k. map tell (map (λ i. least_by (value_at (own_is k)) (kin (g_is k) i)) (below (length (g_is k)))))
    ∙ ap (λ n. map tell (map least (below n))) (length-map pending (parents chain pending))
    ∙ map-map tell least (below (length pending))
    ∙ map_same (λ i. tell (least i)) (λ i. option_and_then (txid_in chain) (conflict w i)) (below (length pending))
    (λ i. by i (least i) (λ k e. conflict_told chain pending names i k told e) refl ∙ ap (option_and_then (txid_in chain)) (conflict_is chain pending i))
  where
    w : PendingView
    w = view_by chain pending []

    tell : Option ℕ → Option (List ℕ)
    tell = option_and_then (λ k. lookup (nat_eq k) names)

    least : ℕ → Option ℕ
    least i = least_by (value_at (own_of chain pending)) (kin (graph (view_by chain pending [])) i)

    by : (i : ℕ) (r : Option ℕ) → ((k : ℕ) → r ≡ Some k → FindsTxid chain names k) → r ≡ r → option_and_then (λ k. lookup (nat_eq k) names) r ≡ option_and_then (txid_in chain) r
    by i None h e = refl
    by i (Some k) h e = h k refl
