-- Which transactions are abandoned, and which are alive.
use Rattle.std.proofs.Common.{◌≡◌, ◌∙◌, ℕ, ◌<◌, ◌||◌, ◌&&◌, not, Bool, true, false, List, [], ◌∷◌, length, map, get_or, Option, Some, None, refl, ap, arith, Contains}
use Rattle.std.specs.Prelude.{is_none, is_some, option_and_then, option_map, slice_index_or}
use Rattle.std.specs.List.{list_any}
use Rattle.std.proofs.lemmas.List.{length-map}
use Rattle.std.proofs.lemmas.List.Elements.{All-contains, All-from_get_or}
use Rattle.std.proofs.lemmas.Option.{slice_get-get_or}
use Rattle.std.proofs.lemmas.Simd.{map-map}
use Rattle.tx_codec.specs.Txid.{txid_of}
use Rattle.coin_book.specs.History.{Confirmed}
use Rattle.coin_book.specs.Spends.{height_of}
use Rattle.payment_states.specs.Graph.{below, kin, within}
use Rattle.payment_states.specs.Least.{least_by, lesser, value_at}
use Rattle.payment_states.specs.Payments.{conflicts_at, conflict, is_abandoned, is_alive, txid_in}
use Rattle.payment_states.specs.ByPlace.{place_if}
use Rattle.payment_states.specs.PendingView.{PendingView, kin_of, graph, is_listed, no_tx, parents, tx_at}
use Rattle.payment_states.proofs.Below.{get_or-below, get_or-map_below, get_or_map, length-below, map_same}
use Rattle.payment_states.proofs.FirstSteps.{find_below}
use Rattle.payment_states.proofs.Order.{all_filtered}
use Rattle.payment_states.proofs.Paths.{any_agree}

-- it and its ancestors stand in the list
pub kin_within : (g : List (List ℕ)) (i j : ℕ) → Contains (kin g i) j → j < length g
kin_within g i j c =
    All-contains (λ k. k < length g) (kin g i) j
    (all_filtered (λ k. k < length g) (within g (length g) i) (below (length g))
    (All-from_get_or (λ k. k < length g) (below (length g)) 0 (λ k lt. let n = length-below (length g) in let e = get_or-below (length g) k 0 (omega arith) in omega arith))) c

-- there is a least value where there is a value
pub some_least : {X : Type 0} (f : X → Option ℕ) (xs : List X) → is_some (least_by f xs) ≡ list_any (λ x. is_some (f x)) xs
some_least f [] = refl
some_least f (x ∷ xs) = by (f x) (least_by f xs) ∙ ap (λ b. is_some (f x) || b) (some_least f xs)
  where
    by : (a b : Option ℕ) → is_some (lesser a b) ≡ (is_some a || is_some b)
    by None b = refl
    by (Some m) None = refl
    by (Some m) (Some n) = refl

if_some : (b : Bool) (n : ℕ) → is_some (place_if b n) ≡ b
if_some true n = refl
if_some false n = refl

-- where the least flag of it and its ancestors is there, one of them is listed
pub listed_is : (g : List (List ℕ)) (abandoned txids : List (List ℕ)) (own : List (Option ℕ)) → own ≡ map (λ t. place_if (is_listed abandoned t) 0) txids → length txids ≡ length g
    → map is_some (map (λ i. least_by (value_at own) (kin g i)) (below (length g))) ≡ map (λ i. list_any (λ j. is_listed abandoned (slice_index_or txids j [])) (kin g i)) (below (length g))
listed_is g abandoned txids own own_is long =
    (λ k. map is_some (map (λ i. least_by (value_at (own_is k)) (kin g i)) (below (length g))))
    ∙ map-map is_some (λ i. least_by (value_at flags) (kin g i)) (below (length g))
    ∙ map_same (λ i. is_some (least_by (value_at flags) (kin g i))) (λ i. list_any (λ j. is_listed abandoned (slice_index_or txids j [])) (kin g i)) (below (length g))
    (λ i. some_least (value_at flags) (kin g i) ∙ any_agree (λ j. is_some (value_at flags j)) (λ j. is_listed abandoned (slice_index_or txids j [])) (kin g i) (λ j c. at j (kin_within g i j c)))
  where
    flags : List (Option ℕ)
    flags = map (λ t. place_if (is_listed abandoned t) 0) txids

    at : (j : ℕ) → j < length g → is_some (value_at flags j) ≡ is_listed abandoned (slice_index_or txids j [])
    at j lt = ap is_some (get_or_map (λ t. place_if (is_listed abandoned t) 0) txids j None [] (omega arith)) ∙ if_some (is_listed abandoned (slice_index_or txids j [])) 0

-- then it is abandoned
pub abandoned_is : (w : PendingView) (g : List (List ℕ)) (txids : List (List ℕ)) → g ≡ graph w → txids ≡ map txid_of w.pending
    → map (λ i. list_any (λ j. is_listed w.abandoned (slice_index_or txids j [])) (kin g i)) (below (length g)) ≡ map (is_abandoned w) (below (length w.pending))
unfolding is_abandoned
abandoned_is w g txids g_is txids_are =
    (λ k. map (λ i. list_any (λ j. is_listed w.abandoned (slice_index_or (txids_are k) j [])) (kin (g_is k) i)) (below (length (g_is k))))
    ∙ ap (λ n. map (λ i. list_any (λ j. is_listed w.abandoned (slice_index_or (map txid_of w.pending) j [])) (kin_of w i)) (below n)) (length-map w.pending (parents w.chain w.pending))
    ∙ map_same (λ i. list_any (λ j. is_listed w.abandoned (slice_index_or (map txid_of w.pending) j [])) (kin_of w i)) (λ i. list_any (λ j. is_listed w.abandoned (txid_of (tx_at w j))) (kin_of w i)) (below (length w.pending))
    (λ i. any_agree (λ j. is_listed w.abandoned (slice_index_or (map txid_of w.pending) j [])) (λ j. is_listed w.abandoned (txid_of (tx_at w j))) (kin_of w i) (λ j c. at j (kin_within (graph w) i j c)))
  where
    at : (j : ℕ) → j < length (graph w) → is_listed w.abandoned (slice_index_or (map txid_of w.pending) j []) ≡ is_listed w.abandoned (txid_of (tx_at w j))
    at j lt = let n = length-map w.pending (parents w.chain w.pending) in ap (is_listed w.abandoned) (get_or_map txid_of w.pending j [] no_tx (omega arith))

-- a conflict has a txid
conflict_named : (w : PendingView) (i : ℕ) → is_none (option_and_then (txid_in w.chain) (conflict w i)) ≡ is_none (conflict w i)
unfolding conflict
conflict_named w i = by (conflict w i) (λ k e. find_below (λ place. list_any (λ j. conflicts_at w.chain (tx_at w j) place) (kin_of w i)) (length w.chain) k e)
  where
    no_confirmed : Confirmed
    no_confirmed = record { tx = no_tx; height = 0 }

    by : (r : Option ℕ) → ((k : ℕ) → r ≡ Some k → k < length w.chain) → is_none (option_and_then (txid_in w.chain) r) ≡ is_none r
    by None h = refl
    by (Some k) h = ap (λ (o : Option Confirmed). is_none (option_map (λ (c : Confirmed). txid_of c.tx) o)) (slice_get-get_or w.chain k no_confirmed (h k refl))

-- those that are alive, from what was found of each
pub alive_is : (w : PendingView) (heights : List (Option ℕ)) (conflicts : List (Option (List ℕ))) (abandoned : List Bool) → heights ≡ map (height_of w.chain) (map txid_of w.pending)
    → conflicts ≡ map (λ i. option_and_then (txid_in w.chain) (conflict w i)) (below (length w.pending)) → abandoned ≡ map (is_abandoned w) (below (length w.pending))
    → (i : ℕ) → i < length w.pending → (is_none (slice_index_or heights i None) && (is_none (slice_index_or conflicts i None) && not (slice_index_or abandoned i false))) ≡ is_alive w i
unfolding is_alive
alive_is w heights conflicts abandoned heights_are conflicts_are abandoned_are i lt =
    let m = length-map w.pending txid_of in
    let h : get_or heights i None ≡ height_of w.chain (txid_of (tx_at w i)) =
    ap (λ (l : List (Option ℕ)). get_or l i None) heights_are ∙ get_or_map (height_of w.chain) (map txid_of w.pending) i None [] (omega arith) ∙ ap (height_of w.chain) (get_or_map txid_of w.pending i [] no_tx lt) in
    let c : is_none (get_or conflicts i None) ≡ is_none (conflict w i) =
    ap (λ (l : List (Option (List ℕ))). is_none (get_or l i None)) conflicts_are ∙ ap is_none (get_or-map_below (λ i. option_and_then (txid_in w.chain) (conflict w i)) (length w.pending) i None lt) ∙ conflict_named w i in
    let g : get_or abandoned i false ≡ is_abandoned w i = ap (λ (l : List Bool). get_or l i false) abandoned_are ∙ get_or-map_below (is_abandoned w) (length w.pending) i false lt in
    λ k. is_none (h k) && (c k && not (g k))
