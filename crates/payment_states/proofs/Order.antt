-- Parents stand before their children.
use Rattle.std.proofs.Common.{◌≡◌, ◌≢◌, ◌⊎◌, inl, inr, ℕ, suc, ◌<◌, ◌≤◌, Bool, true, false, cond, List, [], ◌∷◌, length, map, filter, get_or, Option, Some, None, refl, sym, subst, arith, Contains, All}
use Rattle.std.specs.Prelude.{bytes_eq, is_some}
use Rattle.std.specs.List.{filter_map, cons_option}
use Rattle.std.proofs.lemmas.Bool.{cases_lt}
use Rattle.std.proofs.lemmas.List.{length-map}
use Rattle.std.proofs.lemmas.List.Elements.{All-nil, All-cons, All-contains, All-tail, All-head}
use Rattle.std.proofs.lemmas.List.Quantifiers.{position-Some}
use Rattle.std.proofs.lemmas.Option.{none-some}
use Rattle.std.proofs.lemmas.Slice.Eq.{bytes_eq-Decides}
use Rattle.tx_codec.specs.Transaction.{Transaction}
use Rattle.tx_codec.specs.Txid.{txid_of}
use Rattle.tx_codec.specs.declared.tx.TxIn.{TxIn}
use Rattle.wallet_text.specs.WalletRules.{ParentsComeFirst}
use Rattle.coin_book.specs.History.{Confirmed}
use Rattle.coin_book.specs.Spends.{height_of}
use Rattle.payment_states.specs.Graph.{IsInOrder}
use Rattle.payment_states.specs.PendingView.{open_place, parents, place_in, no_tx}
use Rattle.payment_states.proofs.Below.{get_or_map}

-- what holds of all that a test gives
pub all_abandoned : {X Y : Type 0} (P : Y → Type 0) (f : X → Option Y) (xs : List X) → ((x : X) → Contains xs x → (y : Y) → f x ≡ Some y → P y) → All P (filter_map f xs)
all_abandoned P f [] h = All-nil P
all_abandoned {X = X} {Y = Y} P f (x ∷ xs) h = by (f x) refl (all_abandoned P f xs (λ z c. h z (suc c.0, omega arith, c.2)))
  where
    by : (o : Option Y) → f x ≡ o → All P (filter_map f xs) → All P (cons_option o (filter_map f xs))
    by None e rest = rest
    by (Some y) e rest = All-cons P y (filter_map f xs) (h x (0, omega arith, refl) y e) rest

pub place_open : (chain : List Confirmed) (pending : List Transaction) (txid : List ℕ) (p : ℕ) → open_place chain pending txid ≡ Some p → place_in pending txid ≡ Some p
unfolding open_place
place_open chain pending txid p e = by (is_some (height_of chain txid)) (place_in pending txid) e
  where
    by : (b : Bool) (o : Option ℕ) → cond b None o ≡ Some p → o ≡ Some p
    by true o e = absurd (none-some p e)
    by false o e = e

-- a place that is found is that of a transaction of this txid
pub found_place : (pending : List Transaction) (txid : List ℕ) (p : ℕ) → place_in pending txid ≡ Some p → (p < length pending) × (txid ≡ txid_of (get_or pending p no_tx))
found_place pending txid p e =
    let f = position-Some (λ (t : Transaction). bytes_eq txid (txid_of t)) pending p no_tx e in
    (f.0, (bytes_eq-Decides txid (txid_of (get_or pending p no_tx))).0 f.1)

-- of a wallet's transactions parents come first
pub order_from_rule : (chain : List Confirmed) (pending : List Transaction) → ParentsComeFirst pending → IsInOrder (map (parents chain pending) pending)
order_from_rule chain pending rule i lt =
    let n = length-map pending (parents chain pending) in
    let i_in : i < length pending = omega arith in
    subst (λ (ps : List ℕ). All (λ p. p < i) ps) (sym (get_or_map (parents chain pending) pending i [] no_tx i_in))
    (all_abandoned (λ p. p < i) (λ (x : TxIn). open_place chain pending x.prev.txid) (get_or pending i no_tx).inputs (λ x c p e.
    by x c p (found_place pending x.prev.txid p (place_open chain pending x.prev.txid p e)) (cases_lt p i)))
  where
    by : (x : TxIn) → Contains (get_or pending i no_tx).inputs x → (p : ℕ) → (p < length pending) × (x.prev.txid ≡ txid_of (get_or pending p no_tx)) → (p < i) ⊎ (i ≤ p) → p < i
    by x c p f (inl h) = h
    by x c p f (inr h) = absurd (All-contains (λ (y : TxIn). y.prev.txid ≢ txid_of (get_or pending p no_tx)) (get_or pending i no_tx).inputs x (rule i p no_tx h f.0) c f.1)

-- fewer parents stand in order too
pub all_filtered : (P : ℕ → Type 0) (p : ℕ → Bool) (xs : List ℕ) → All P xs → All P (filter p xs)
all_filtered P p [] h = h
all_filtered P p (x ∷ xs) h = by (p x) (all_filtered P p xs (All-tail P x xs h))
  where
    by : (b : Bool) → All P (filter p xs) → All P (cond b (x ∷ filter p xs) (filter p xs))
    by true rest = All-cons P x (filter p xs) (All-head P x xs h) rest
    by false rest = rest
