-- Which transactions are parents.
use Rattle.std.proofs.Common.{◌≡◌, ◌∙◌, ℕ, zero, suc, ◌<◌, true, cond, List, [], ◌∷◌, length, get_or, Option, Some, None, refl, sym, ap, subst, arith, Contains, Any}
use Rattle.std.specs.Prelude.{bytes_eq, is_some, option_and_then, slice_get}
use Rattle.std.specs.List.{cons_option, filter_map, list_any}
use Rattle.std.proofs.lemmas.Bool.{true≢false}
use Rattle.std.proofs.lemmas.List.{get_or_default}
use Rattle.std.proofs.lemmas.Option.{none-some}
use Rattle.std.proofs.lemmas.Slice.Eq.{bytes_eq-Decides}
use Rattle.tx_codec.specs.Transaction.{Transaction}
use Rattle.tx_codec.specs.Txid.{txid_of}
use Rattle.tx_codec.specs.declared.tx.TxIn.{TxIn}
use Rattle.wallet_text.specs.WalletRules.{AreDistinct}
use Rattle.coin_book.specs.History.{Confirmed}
use Rattle.coin_book.specs.Spends.{height_of}
use Rattle.payment_states.specs.Graph.{steps}
use Rattle.payment_states.specs.PendingView.{PendingView, graph, no_tx, open_place, parents, place_in, tx_at}
use Rattle.payment_states.proofs.Below.{get_or_map}
use Rattle.payment_states.proofs.FitSteps.{some_find}
use Rattle.payment_states.proofs.LookSteps.{one_place}
use Rattle.payment_states.proofs.Order.{found_place}
use Rattle.payment_states.proofs.Paths.{any_has}
use Rattle.known_fees.proofs.Positions.{find_by_place}

-- what is given comes of some element, and what an element gives is there
abandoned_by : {X Y : Type 0} (f : X → Option Y) (xs : List X) (y : Y) → Contains (filter_map f xs) y → (x : X) × Contains xs x × (f x ≡ Some y)
abandoned_by f [] y c = absurd (let l = c.1 in omega arith)
abandoned_by {X = X} {Y = Y} f (x ∷ xs) y c = by (f x) refl (λ d. abandoned_by f xs y d) c
  where
    later : (z : X) × Contains xs z × (f z ≡ Some y) → (z : X) × Contains (x ∷ xs) z × (f z ≡ Some y)
    later r = (r.0, (suc r.1.0, (let l = r.1.1 in omega arith), r.1.2), r.2)

    first : (z : Y) (k : ℕ) → f x ≡ Some z → k < suc (length (filter_map f xs)) → get_or (z ∷ filter_map f xs) k y ≡ y → (Contains (filter_map f xs) y → (z : X) × Contains xs z × (f z ≡ Some y)) → (z : X) × Contains (x ∷ xs) z × (f z ≡ Some y)
    first z zero e lt is r = (x, (0, omega arith, refl), e ∙ ap Some is)
    first z (suc k) e lt is r = later (r (k, omega arith, is))

    by : (o : Option Y) → f x ≡ o → (Contains (filter_map f xs) y → (z : X) × Contains xs z × (f z ≡ Some y)) → Contains (cons_option o (filter_map f xs)) y → (z : X) × Contains (x ∷ xs) z × (f z ≡ Some y)
    by None e r c = later (r c)
    by (Some z) e r c = first z c.0 e c.1 c.2 r

pub gives : {X Y : Type 0} (f : X → Option Y) (xs : List X) (x : X) (y : Y) (k : ℕ) → k < length xs → get_or xs k x ≡ x → f x ≡ Some y → Contains (filter_map f xs) y
gives f [] x y k lt at e = absurd (omega arith)
gives {Y = Y} f (z ∷ xs) x y zero lt at e = subst (λ (o : Option Y). Contains (cons_option o (filter_map f xs)) y) (sym (ap f at ∙ e)) (0, omega arith, refl)
gives {Y = Y} f (z ∷ xs) x y (suc k) lt at e = by (f z) (gives f xs x y k (omega arith) at e)
  where
    by : (o : Option Y) → Contains (filter_map f xs) y → Contains (cons_option o (filter_map f xs)) y
    by None c = c
    by (Some v) c = (suc c.0, (let l = c.1 in omega arith), c.2)

pub open_is : (chain : List Confirmed) (pending : List Transaction) (txid : List ℕ) (p : ℕ) → open_place chain pending txid ≡ Some p → (height_of chain txid ≡ None) × (place_in pending txid ≡ Some p)
unfolding open_place
open_is chain pending txid p e = by (height_of chain txid) refl e
  where
    by : (r : Option ℕ) → height_of chain txid ≡ r → cond (is_some r) None (place_in pending txid) ≡ Some p → (height_of chain txid ≡ None) × (place_in pending txid ≡ Some p)
    by None h e = (h, e)
    by (Some x) h e = absurd (none-some p e)

pub is_open_place : (chain : List Confirmed) (pending : List Transaction) (txid : List ℕ) (p : ℕ) → height_of chain txid ≡ None → place_in pending txid ≡ Some p → open_place chain pending txid ≡ Some p
unfolding open_place
is_open_place chain pending txid p h e = ap (λ (r : Option ℕ). cond (is_some r) None (place_in pending txid)) h ∙ e

-- a transaction is found at its place
pub own_place : (w : PendingView) (p : ℕ) (txid : List ℕ) → AreDistinct w.pending → p < length w.pending → txid ≡ txid_of (tx_at w p) → place_in w.pending txid ≡ Some p
own_place w p txid apart lt e = by (place_in w.pending txid) refl
  where
    there : list_any (λ (t : Transaction). bytes_eq txid (txid_of t)) w.pending ≡ true
    there = any_has (λ (t : Transaction). bytes_eq txid (txid_of t)) w.pending (tx_at w p) (p, lt, get_or_default w.pending p (tx_at w p) no_tx lt) ((bytes_eq-Decides txid (txid_of (tx_at w p))).1 e)

    by : (r : Option ℕ) → place_in w.pending txid ≡ r → r ≡ Some p
    by None h = absurd (true≢false (sym there ∙ sym (some_find (λ (t : Transaction). bytes_eq txid (txid_of t)) w.pending)
        ∙ ap (λ (o : Option Transaction). is_some o) (sym (find_by_place (λ (t : Transaction). bytes_eq txid (txid_of t)) w.pending) ∙ ap (λ (o : Option ℕ). option_and_then (slice_get w.pending) o) h)))
    by (Some q) h = let f = found_place w.pending txid q h in ap Some (one_place w p q apart lt f.0 (sym e ∙ f.1))

pub parents_is : (w : PendingView) (i p : ℕ) → AreDistinct w.pending → i < length w.pending
    → (Contains (steps (graph w) i) p → (p < length w.pending) × (height_of w.chain (txid_of (tx_at w p)) ≡ None) × Any (λ (x : TxIn). x.prev.txid ≡ txid_of (tx_at w p)) (tx_at w i).inputs)
    × ((p < length w.pending) × (height_of w.chain (txid_of (tx_at w p)) ≡ None) × Any (λ (x : TxIn). x.prev.txid ≡ txid_of (tx_at w p)) (tx_at w i).inputs → Contains (steps (graph w) i) p)
parents_is w i p apart lt = (λ c. there (abandoned_by look (tx_at w i).inputs p (subst (λ (ps : List ℕ). Contains ps p) here c)), λ h. back h.0 h.1 h.2)
  where
    look : TxIn → Option ℕ
    look x = open_place w.chain w.pending x.prev.txid

    here : steps (graph w) i ≡ filter_map look (tx_at w i).inputs
    here = get_or_map (parents w.chain w.pending) w.pending i [] no_tx lt

    there : (x : TxIn) × Contains (tx_at w i).inputs x × (look x ≡ Some p) → (p < length w.pending) × (height_of w.chain (txid_of (tx_at w p)) ≡ None) × Any (λ (x : TxIn). x.prev.txid ≡ txid_of (tx_at w p)) (tx_at w i).inputs
    there r =
        let o = open_is w.chain w.pending r.0.prev.txid p r.2 in
        let f = found_place w.pending r.0.prev.txid p o.1 in
        (f.0, ap (height_of w.chain) (sym f.1) ∙ o.0, (r.1.0, r.0, r.1.1, r.1.2, f.1))

    back : p < length w.pending → height_of w.chain (txid_of (tx_at w p)) ≡ None → Any (λ (x : TxIn). x.prev.txid ≡ txid_of (tx_at w p)) (tx_at w i).inputs → Contains (steps (graph w) i) p
    back in' none a =
        subst (λ (ps : List ℕ). Contains ps p) (sym here)
        (gives look (tx_at w i).inputs a.1 p a.0 a.2 a.3 (is_open_place w.chain w.pending a.1.prev.txid p (ap (height_of w.chain) a.4 ∙ none) (own_place w p a.1.prev.txid apart in' a.4)))
