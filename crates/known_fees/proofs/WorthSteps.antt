-- What outpoints are worth, step by step.
use Rattle.std.proofs.Common.{◌≡◌, ◌∙◌, ℕ, ◌+◌, ◌-◌, ◌<◌, ◌≤◌, Bool, true, false, cond, List, [], ◌∷◌, ◌++◌, length, map, take, drop, get_or, min, Option, Some, None, refl, sym, ap, arith}
use Rattle.std.specs.Prelude.{bytes_eq, fold, is_none, is_some, option_and_then, option_map, position, slice_get}
use Rattle.std.specs.Option.{option_or}
use Rattle.std.proofs.lemmas.Bool.{true≢false}
use Rattle.std.proofs.lemmas.List.{drop_more, length-map, map-append, map_more, take-append-drop}
use Rattle.std.proofs.lemmas.List.Folds.{find-append}
use Rattle.std.proofs.lemmas.List.Quantifiers.{position-Some}
use Rattle.std.proofs.lemmas.List.Sums.{fold_push}
use Rattle.std.proofs.lemmas.Option.{slice_get-get_or}
use Rattle.fund_base.specs.declared.outpoint.OutPoint.{OutPoint}
use Rattle.tx_codec.specs.Transaction.{Transaction}
use Rattle.tx_codec.specs.Txid.{txid_of}
use Rattle.tx_codec.specs.declared.tx.TxIn.{TxIn}
use Rattle.tx_codec.specs.declared.tx.TxOut.{TxOut}
use Rattle.coin_book.specs.History.{History}
use Rattle.known_fees.proofs.Positions.{find_by_place, position-map}
use Rattle.known_fees.specs.Worth.{add_once, first_foreign, once_of, output_among, worth_of}

-- ---- an output by its transaction's place

pub place_within : (txs : List Transaction) (txids : List (List ℕ)) (txid : List ℕ) (place : ℕ) → txids ≡ map txid_of txs → position (bytes_eq txid) txids ≡ Some place → place < length txs
place_within txs txids txid place names e =
    let p = position-Some (bytes_eq txid) txids place [] e in
    let n = ap (λ (l : List (List ℕ)). length l) names in
    let m = length-map txs txid_of in
    let lt = p.0 in
    omega arith

-- the output that an outpoint names, by the place of its txid
pub output_by_place : (txs : List Transaction) (txids : List (List ℕ)) (o : OutPoint) (place : Option ℕ) → txids ≡ map txid_of txs → position (bytes_eq o.txid) txids ≡ place
    → output_among txs o ≡ option_and_then (λ (t : Transaction). slice_get t.outputs o.index) (option_and_then (slice_get txs) place)
output_by_place txs txids o place names e =
    ap (λ (r : Option Transaction). option_and_then (λ (t : Transaction). slice_get t.outputs o.index) r)
    (sym (find_by_place (λ (t : Transaction). bytes_eq o.txid (txid_of t)) txs)
    ∙ ap (λ (r : Option ℕ). option_and_then (slice_get txs) r) (sym (position-map (bytes_eq o.txid) txid_of txs) ∙ ap (position (bytes_eq o.txid)) (sym names) ∙ e))

pub output_at : (txs : List Transaction) (txids : List (List ℕ)) (o : OutPoint) (place : ℕ) (t : Transaction) → txids ≡ map txid_of txs → position (bytes_eq o.txid) txids ≡ Some place → t ≡ get_or txs place t
    → option_map (λ (x : TxOut). x.value) (slice_get t.outputs o.index) ≡ option_map (λ (x : TxOut). x.value) (output_among txs o)
output_at txs txids o place t names e is =
    let here : slice_get txs place ≡ Some t = slice_get-get_or txs place t (place_within txs txids o.txid place names e) ∙ ap (λ (x : Transaction). Some x) (sym is) in
    ap (option_map (λ (x : TxOut). x.value)) (sym (output_by_place txs txids o (Some place) names e ∙ ap (λ (r : Option Transaction). option_and_then (λ (t : Transaction). slice_get t.outputs o.index) r) here))

-- ---- the first that is foreign

pub none_if : {X : Type 0} (r : Option X) → is_some r ≡ false → is_none r ≡ true
none_if None e = refl
none_if (Some x) e = absurd (true≢false e)

pub some_if : {X : Type 0} (r : Option X) → is_some r ≡ true → is_none r ≡ false
some_if None e = absurd (true≢false (sym e))
some_if (Some x) e = refl

pub foreign_behind : (h : History) (ts : List Transaction) (front points : List OutPoint) → first_foreign h ts front ≡ None → first_foreign h ts (front ++ points) ≡ first_foreign h ts points
foreign_behind h ts front points none =
    find-append (λ o. is_none (worth_of h ts o)) front points ∙ ap (λ (r : Option OutPoint). option_or r (first_foreign h ts points)) none

pub foreign_found : (h : History) (ts : List Transaction) (front points : List OutPoint) (o : OutPoint) → first_foreign h ts front ≡ Some o → first_foreign h ts (front ++ points) ≡ Some o
foreign_found h ts front points o found =
    find-append (λ o. is_none (worth_of h ts o)) front points ∙ ap (λ (r : Option OutPoint). option_or r (first_foreign h ts points)) found

-- a list about the element at a place
pub about_place : {X : Type 0} (xs : List X) (i : ℕ) (x : X) → i < length xs → x ≡ get_or xs i x → xs ≡ take i xs ++ x ∷ drop (i + 1) xs
about_place {X = X} xs i x lt is =
    sym (take-append-drop i xs) ∙ ap (λ (l : List X). take i xs ++ l) (drop_more xs i x lt ∙ ap (λ (y : X). y ∷ drop (i + 1) xs) (sym is))

abbrev pub points_at : List TxIn → List OutPoint
points_at inputs = map (λ (x : TxIn). x.prev) inputs

-- the first of these inputs
pub foreign_here : (h : History) (ts : List Transaction) (inputs : List TxIn) (i : ℕ) (x : TxIn) → i < length inputs → x ≡ get_or inputs i x
    → first_foreign h ts (points_at (take i inputs)) ≡ None → is_none (worth_of h ts x.prev) ≡ true → first_foreign h ts (points_at inputs) ≡ Some x.prev
foreign_here h ts inputs i x lt is before here =
    ap (λ (l : List TxIn). first_foreign h ts (points_at l)) (about_place inputs i x lt is)
    ∙ ap (first_foreign h ts) (map-append (λ (x : TxIn). x.prev) (take i inputs) (x ∷ drop (i + 1) inputs))
    ∙ foreign_behind h ts (points_at (take i inputs)) (points_at (x ∷ drop (i + 1) inputs)) before
    ∙ ap (λ (b : Bool). cond b (Some x.prev) (first_foreign h ts (points_at (drop (i + 1) inputs)))) here

-- none so far, and not this one
pub foreign_later : (h : History) (ts : List Transaction) (inputs : List TxIn) (i : ℕ) (x : TxIn) → i < length inputs → x ≡ get_or inputs i x
    → first_foreign h ts (points_at (take i inputs)) ≡ None → is_none (worth_of h ts x.prev) ≡ false → first_foreign h ts (points_at (take (i + 1) inputs)) ≡ None
foreign_later h ts inputs i x lt is before here =
    ap (first_foreign h ts) (map_more (λ (x : TxIn). x.prev) inputs i x lt ∙ ap (λ (y : TxIn). points_at (take i inputs) ++ y.prev ∷ []) (sym is))
    ∙ foreign_behind h ts (points_at (take i inputs)) (x.prev ∷ []) before
    ∙ ap (λ (b : Bool). cond b (Some x.prev) None) here

-- ---- fees

pub capped_fee : (spent taken : ℕ) → taken ≤ 2_100_000_000_000_000 → min (min spent 4_200_000_000_000_000 - min taken 4_200_000_000_000_000) 2_100_000_000_000_000 ≡ min 2_100_000_000_000_000 (spent - taken)
capped_fee spent taken le = omega arith

-- ---- outpoints, each once

pub once_more : (inputs : List TxIn) (i : ℕ) (x : TxIn) → i < length inputs → x ≡ get_or inputs i x
    → once_of (map (λ (y : TxIn). y.prev) (take (i + 1) inputs)) ≡ add_once (once_of (map (λ (y : TxIn). y.prev) (take i inputs))) x.prev
unfolding once_of
once_more inputs i x lt is =
    ap (fold add_once []) (map_more (λ (y : TxIn). y.prev) inputs i x lt ∙ ap (λ (y : TxIn). map (λ (y : TxIn). y.prev) (take i inputs) ++ y.prev ∷ []) (sym is))
    ∙ fold_push add_once [] (map (λ (y : TxIn). y.prev) (take i inputs)) x.prev
