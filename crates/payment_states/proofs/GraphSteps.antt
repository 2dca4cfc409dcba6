-- The pending list as a graph.
use Rattle.std.proofs.Common.{◌≡◌, ◌≢◌, ◌∙◌, ℕ, ◌+◌, ◌<◌, false, cond, List, [], ◌∷◌, ◌++◌, length, map, take, get_or, Option, Some, None, refl, sym, ap, arith, AllPairs}
use Rattle.std.specs.Prelude.{bytes_eq, is_some}
use Rattle.std.specs.List.{filter_map, list_any, cons_option}
use Rattle.std.specs.Option.{option_to_list}
use Rattle.std.proofs.lemmas.Bool.{false_from_ne_true}
use Rattle.std.proofs.lemmas.List.{get_or-take, get_or_default, length-map, length-take-le, take_more}
use Rattle.std.proofs.lemmas.List.Elements.{filter_map-append}
use Rattle.std.proofs.lemmas.List.Folds.{list_any_none}
use Rattle.std.proofs.lemmas.Slice.Eq.{bytes_eq-Decides}
use Rattle.tx_codec.specs.Transaction.{Transaction}
use Rattle.tx_codec.specs.Txid.{txid_of}
use Rattle.tx_codec.specs.declared.tx.TxIn.{TxIn}
use Rattle.wallet_text.specs.WalletRules.{AreDistinct}
use Rattle.coin_book.specs.History.{Confirmed}
use Rattle.coin_book.specs.Spends.{height_of}
use Rattle.payment_states.specs.ByPlace.{parents_by, place_by}
use Rattle.payment_states.specs.PendingView.{open_place, parents, no_tx}
use Rattle.payment_states.proofs.Below.{get_or_map}
use Rattle.known_fees.proofs.Positions.{position-map}

to_list : {Y : Type 0} (o : Option Y) → cons_option o [] ≡ option_to_list o
to_list None = refl
to_list (Some y) = refl

-- and of those that are there
pub filter_map_more : {X Y : Type 0} (f : X → Option Y) (xs : List X) (i : ℕ) (d : X) → i < length xs → filter_map f (take (i + 1) xs) ≡ filter_map f (take i xs) ++ option_to_list (f (get_or xs i d))
filter_map_more {Y = Y} f xs i d lt = ap (filter_map f) (take_more xs i d lt) ∙ filter_map-append f (take i xs) (get_or xs i d ∷ []) ∙ ap (λ (ys : List Y). filter_map f (take i xs) ++ ys) (to_list (f (get_or xs i d)))

-- the txids of a wallet's transactions are distinct
pub distinct_txids : (ts : List Transaction) → AreDistinct ts → AllPairs (λ x y. x ≢ y) (map txid_of ts)
distinct_txids ts h i j d lt in' =
    let n = length-map ts txid_of in
    let a = get_or_map txid_of ts i d no_tx (omega arith) in
    let b = get_or_map txid_of ts j d no_tx (omega arith) in
    λ e. h i j no_tx lt (omega arith) (sym a ∙ e ∙ b)

-- one that comes later isn't among those before it
pub fresh : (xs : List (List ℕ)) (i : ℕ) (d : List ℕ) → AllPairs (λ x y. x ≢ y) xs → i < length xs → list_any (bytes_eq (get_or xs i d)) (take i xs) ≡ false
fresh xs i d h lt = list_any_none (bytes_eq (get_or xs i d)) (take i xs) (λ k e in'.
    let n = length-take-le i xs (omega arith) in
    let at = get_or-take i xs k e (omega arith) in
    false_from_ne_true (bytes_eq (get_or xs i d) (get_or (take i xs) k e)) (λ same.
    h k i e (omega arith) lt (sym (at) ∙ sym ((bytes_eq-Decides (get_or xs i d) (get_or (take i xs) k e)).0 same) ∙ get_or_default xs i d e lt)))

-- the place of a txid
pub place_is : (chain : List Confirmed) (pending : List Transaction) (txid : List ℕ) → place_by chain (map txid_of pending) txid ≡ open_place chain pending txid
unfolding open_place
place_is chain pending txid = ap (λ (r : Option ℕ). cond (is_some (height_of chain txid)) None r) (position-map (bytes_eq txid) txid_of pending)

pub filter_map_agree : {X Y : Type 0} (f h : X → Option Y) (xs : List X) → ((x : X) → f x ≡ h x) → filter_map f xs ≡ filter_map h xs
filter_map_agree f h [] same = refl
filter_map_agree f h (x ∷ xs) same = (λ k. cons_option (same x k) (filter_map_agree f h xs same k))

-- the places of the parents
pub parents_are : (chain : List Confirmed) (pending : List Transaction) (t : Transaction) → parents_by chain (map txid_of pending) t.inputs ≡ parents chain pending t
parents_are chain pending t = filter_map_agree (λ (i : TxIn). place_by chain (map txid_of pending) i.prev.txid) (λ (i : TxIn). open_place chain pending i.prev.txid) t.inputs (λ i. place_is chain pending i.prev.txid)
