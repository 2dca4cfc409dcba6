-- What is known of the pending list.
use Rattle.std.proofs.Common.{◌≡◌, ◌∙◌, ℕ, suc, ◌<◌, ◌||◌, ◌&&◌, not, Bool, true, false, cond, List, [], ◌∷◌, length, map, filter, get_or, min, Option, Some, None, refl, sym, ap, subst, arith, Contains, All}
use Rattle.std.specs.Prelude.{bytes_eq, count_by, is_none, position, slice_index_or}
use Rattle.std.specs.List.{list_all, list_any}
use Rattle.std.proofs.lemmas.List.{length-map}
use Rattle.std.proofs.lemmas.List.Elements.{All-contains}
use Rattle.std.proofs.lemmas.Simd.{map-map}
use Rattle.tx_codec.specs.Transaction.{Transaction}
use Rattle.tx_codec.specs.Txid.{txid_of}
use Rattle.tx_codec.specs.declared.tx.TxIn.{TxIn}
use Rattle.wallet_text.specs.PlainWallet.{PlainWallet}
use Rattle.coin_book.specs.History.{History}
use Rattle.coin_book.specs.declared.coin.Coin.{Coin}
use Rattle.payment_states.specs.Candidates.{ancestors, descendants, is_mine, is_own, is_pending, is_pending_state, is_replaced_by, is_safe, pending_graph, replaces}
use Rattle.payment_states.specs.Counts.{downs, is_counted, ups}
use Rattle.payment_states.specs.Graph.{IsInOrder, below, kin, within}
use Rattle.payment_states.specs.Least.{least_by, lesser, value_at}
use Rattle.payment_states.specs.Payments.{payment_at, payments_in, payments_of}
use Rattle.payment_states.specs.ByPlace.{place_among, place_if}
use Rattle.payment_states.specs.PendingView.{PendingView, kin_of, graph, no_tx, open_place, parents, place_in, tx_at, view_of}
use Rattle.payment_states.specs.declared.state.Payment.{Payment}
use Rattle.payment_states.proofs.Below.{below_within, get_or-map_below, get_or_map, length-map_below, map_below_same, map_same}
use Rattle.payment_states.proofs.CountSteps.{count_agree}
use Rattle.payment_states.proofs.AbandonedSteps.{kin_within}
use Rattle.payment_states.proofs.StateSteps.{names_are}
use Rattle.payment_states.proofs.Order.{all_filtered, all_abandoned, found_place, place_open}
use Rattle.known_fees.proofs.Positions.{position-map}

-- fewer parents stand in order too
pub order_filter : (keep : ℕ → Bool) (g : List (List ℕ)) → IsInOrder g → IsInOrder (map (filter keep) g)
order_filter keep g order i lt =
    let n = length-map g (filter keep) in
    let in_g : i < length g = omega arith in
    subst (λ (ps : List ℕ). All (λ p. p < i) ps) (sym (get_or_map (filter keep) g i [] [] in_g)) (all_filtered (λ p. p < i) keep (get_or g i []) (order i in_g))

pub filter_agree_in : {X : Type 0} (p q : X → Bool) (xs : List X) → ((x : X) → Contains xs x → p x ≡ q x) → filter p xs ≡ filter q xs
filter_agree_in p q [] same = refl
filter_agree_in p q (x ∷ xs) same =
    (λ k. cond (same x (0, omega arith, refl) k) (x ∷ filter_agree_in p q xs (λ y c. same y (suc c.0, omega arith, c.2)) k) (filter_agree_in p q xs (λ y c. same y (suc c.0, omega arith, c.2)) k))

pub any_map : {X Y : Type 0} (p : Y → Bool) (f : X → Y) (xs : List X) → list_any p (map f xs) ≡ list_any (λ x. p (f x)) xs
any_map p f [] = refl
any_map p f (x ∷ xs) = ap (λ b. p (f x) || b) (any_map p f xs)

-- no value is there exactly where each element has none
none_least : {X : Type 0} (f : X → Option ℕ) (q : X → Bool) (xs : List X) → ((x : X) → Contains xs x → is_none (f x) ≡ q x) → is_none (least_by f xs) ≡ list_all q xs
none_least f q [] same = refl
none_least f q (x ∷ xs) same = by (f x) (least_by f xs) ∙ (λ k. same x (0, omega arith, refl) k && none_least f q xs (λ y c. same y (suc c.0, omega arith, c.2)) k)
  where
    by : (a b : Option ℕ) → is_none (lesser a b) ≡ (is_none a && is_none b)
    by None b = refl
    by (Some m) None = refl
    by (Some m) (Some n) = refl

none_if : (b : Bool) → is_none (place_if (not b) 0) ≡ b
none_if true = refl
none_if false = refl

module _ (w : PendingView) where
  -- ---- which are Pending

  pub pending_are : map (λ (p : Payment). is_pending_state p.state) (payments_in w) ≡ map (is_pending w) (below (length w.pending))
  pending_are = map-map (λ (p : Payment). is_pending_state p.state) (payment_at w) (below (length w.pending))

  pub payments_count : length (payments_in w) ≡ length w.pending
  payments_count = length-map_below (payment_at w) (length w.pending)

  pub place_is : (txid : List ℕ) → place_among (payments_in w) txid ≡ place_in w.pending txid
  place_is txid = sym (position-map (bytes_eq txid) (λ (p : Payment). p.txid) (payments_in w)) ∙ ap (position (bytes_eq txid)) (names_are w) ∙ position-map (bytes_eq txid) txid_of w.pending

  -- ---- which are safe

  parents_within : (t : Transaction) → All (λ p. p < length w.pending) (parents w.chain w.pending t)
  parents_within t = all_abandoned (λ p. p < length w.pending) (λ (x : TxIn). open_place w.chain w.pending x.prev.txid) t.inputs (λ x c p e. (found_place w.pending x.prev.txid p (place_open w.chain w.pending x.prev.txid p e)).0)

  pub kept_is : (g : List (List ℕ)) (flags : List Bool) → g ≡ graph w → flags ≡ map (is_pending w) (below (length w.pending)) → map (filter (λ j. slice_index_or flags j false)) g ≡ pending_graph w
  kept_is g flags g_is flags_are =
      (λ k. map (filter (λ j. slice_index_or (flags_are k) j false)) (g_is k))
      ∙ map-map (filter (λ j. slice_index_or (map (is_pending w) (below (length w.pending))) j false)) (parents w.chain w.pending) w.pending
      ∙ map_same (λ (t : Transaction). filter (λ j. slice_index_or (map (is_pending w) (below (length w.pending))) j false) (parents w.chain w.pending t)) (λ (t : Transaction). filter (is_pending w) (parents w.chain w.pending t)) w.pending
      (λ t. filter_agree_in (λ j. slice_index_or (map (is_pending w) (below (length w.pending))) j false) (is_pending w) (parents w.chain w.pending t)
      (λ j c. get_or-map_below (is_pending w) (length w.pending) j false (All-contains (λ p. p < length w.pending) (parents w.chain w.pending t) j (parents_within t) c)))

  -- the txids that replace payments
  pub replaces_is : (t : List ℕ) → list_any (λ (p : Payment). is_replaced_by t p.state) (payments_in w) ≡ replaces w t
  replaces_is t = any_map (λ (p : Payment). is_replaced_by t p.state) (payment_at w) (below (length w.pending))

  -- the doubts, where it is known what replaces
  pub doubts_are : (coins : List Coin) (replacer : List ℕ → Bool) → ((t : List ℕ) → replacer t ≡ replaces w t)
      → map (λ i. place_if (not (is_mine coins (slice_index_or w.pending i no_tx) && not (replacer (slice_index_or (map (λ (p : Payment). p.txid) (payments_in w)) i [])))) 0) (below (length w.pending))
      ≡ map (λ i. place_if (not (is_own w coins i)) 0) (below (length w.pending))
  unfolding is_own
  doubts_are coins replacer told =
      map_below_same (λ i. place_if (not (is_mine coins (slice_index_or w.pending i no_tx) && not (replacer (slice_index_or (map (λ (p : Payment). p.txid) (payments_in w)) i [])))) 0)
      (λ i. place_if (not (is_mine coins (tx_at w i) && not (replaces w (txid_of (tx_at w i))))) 0) (length w.pending)
      (λ i lt. ap (λ b. place_if (not (is_mine coins (tx_at w i) && not b)) 0)
      (told (slice_index_or (map (λ (p : Payment). p.txid) (payments_in w)) i []) ∙ ap (replaces w) (ap (λ (l : List (List ℕ)). slice_index_or l i []) (names_are w) ∙ get_or_map txid_of w.pending i [] no_tx lt)))

  pub safe_are : (coins : List Coin) (kg : List (List ℕ)) (doubts : List (Option ℕ)) → kg ≡ pending_graph w → doubts ≡ map (λ i. place_if (not (is_own w coins i)) 0) (below (length w.pending))
      → map is_none (map (λ i. least_by (value_at doubts) (kin kg i)) (below (length kg))) ≡ map (is_safe w coins) (below (length w.pending))
  unfolding is_safe
  safe_are coins kg doubts kg_is doubts_are =
      (λ k. map is_none (map (λ i. least_by (value_at (doubts_are k)) (kin (kg_is k) i)) (below (length (kg_is k)))))
      ∙ map-map is_none (λ i. least_by (value_at own) (kin (pending_graph w) i)) (below (length (pending_graph w)))
      ∙ ap (λ n. map (λ i. is_none (least_by (value_at own) (kin (pending_graph w) i))) (below n)) count
      ∙ map_same (λ i. is_none (least_by (value_at own) (kin (pending_graph w) i))) (λ i. list_all (is_own w coins) (kin (pending_graph w) i)) (below (length w.pending))
      (λ i. none_least (value_at own) (is_own w coins) (kin (pending_graph w) i) (λ j c. at j (kin_within (pending_graph w) i j c)))
    where
      own : List (Option ℕ)
      own = map (λ i. place_if (not (is_own w coins i)) 0) (below (length w.pending))

      count : length (pending_graph w) ≡ length w.pending
      count = length-map w.pending (λ (t : Transaction). filter (is_pending w) (parents w.chain w.pending t))

      at : (j : ℕ) → j < length (pending_graph w) → is_none (value_at own j) ≡ is_own w coins j
      at j lt = let n = count in ap is_none (get_or-map_below (λ i. place_if (not (is_own w coins i)) 0) (length w.pending) j None (omega arith)) ∙ none_if (is_own w coins j)

  -- ---- the numbers

  pub flag_is : (flags : List Bool) → flags ≡ map (is_pending w) (below (length w.pending)) → (j : ℕ) → j < length w.pending → is_counted flags j ≡ is_pending w j
  flag_is flags flags_are j lt = ap (λ (l : List Bool). slice_index_or l j false) flags_are ∙ get_or-map_below (is_pending w) (length w.pending) j false lt

  pub graph_count : length (graph w) ≡ length w.pending
  graph_count = length-map w.pending (parents w.chain w.pending)

  pub ancestors_are : (g : List (List ℕ)) (flags : List Bool) → g ≡ graph w → flags ≡ map (is_pending w) (below (length w.pending)) → (i : ℕ) → min 4294967295 (ups g flags i) ≡ ancestors w i
  ancestors_are g flags g_is flags_are i =
      ap (λ (l : List (List ℕ)). min 4294967295 (ups l flags i)) g_is
      ∙ ap (λ n. min 4294967295 n) (count_agree (is_counted flags) (is_pending w) (kin_of w i) (λ j c. let n = graph_count in let lt = kin_within (graph w) i j c in flag_is flags flags_are j (omega arith)))

  pub descendants_are : (g : List (List ℕ)) (flags : List Bool) → g ≡ graph w → flags ≡ map (is_pending w) (below (length w.pending)) → (i : ℕ) → min 4294967295 (downs g flags i) ≡ descendants w i
  descendants_are g flags g_is flags_are i =
      ap (λ (l : List (List ℕ)). min 4294967295 (downs l flags i)) g_is
      ∙ ap (λ n. min 4294967295 (count_by (λ j. is_counted flags j && within (graph w) (length (graph w)) j i) (below n))) graph_count
      ∙ ap (λ n. min 4294967295 n) (count_agree (λ j. is_counted flags j && within (graph w) (length (graph w)) j i) (λ j. is_pending w j && within (graph w) (length (graph w)) j i) (below (length w.pending))
      (λ j c. ap (λ b. b && within (graph w) (length (graph w)) j i) (flag_is flags flags_are j (below_within (length w.pending) j c))))

-- the payments are those of the view
pub opened : (w : PlainWallet) (h : History) (ps : List Payment) → ps ≡ payments_of w h → ps ≡ payments_in (view_of w h)
unfolding payments_of
opened w h ps e = e
