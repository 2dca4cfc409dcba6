-- The states, from what was found at each place.
use Rattle.std.proofs.Common.{◌≡◌, ◌∙◌, ℕ, ◌<◌, ◌&&◌, not, Bool, false, List, [], length, map, get_or, Option, Some, None, refl, sym, ap, arith}
use Rattle.std.specs.Prelude.{find, is_none, is_some, nat_lt, option_and_then, option_map, slice_get, slice_index_or}
use Rattle.std.proofs.lemmas.List.{length-map}
use Rattle.std.proofs.lemmas.Option.{slice_get-get_or, none-some}
use Rattle.std.proofs.lemmas.Simd.{map-map}
use Rattle.tx_codec.specs.Transaction.{Transaction}
use Rattle.tx_codec.specs.Txid.{txid_of}
use Rattle.coin_book.specs.History.{Confirmed}
use Rattle.coin_book.specs.Spends.{height_of}
use Rattle.payment_states.specs.Graph.{below, kin, within}
use Rattle.payment_states.specs.Least.{least_by, value_at}
use Rattle.payment_states.specs.Payments.{conflict, first_of, is_abandoned, is_alive, payment_at, payments_in, replaced, replacer, state_at, txid_at, txid_in}
use Rattle.payment_states.specs.ByPlace.{payment_by, place_if, replacer_by, view_by}
use Rattle.payment_states.specs.declared.state.Payment.{Payment}
use Rattle.payment_states.specs.PendingView.{PendingView, kin_of, graph, no_tx, parents, shares, tx_at}
use Rattle.payment_states.proofs.Below.{below_within, get_or-map_below, get_or_map, length-map_below, map_below_same, map_places}
use Rattle.payment_states.proofs.FirstSteps.{find_agree, find_below, first_is_least, found_below}
use Rattle.payment_states.proofs.AbandonedSteps.{alive_is, kin_within}
use Rattle.payment_states.proofs.LeastSteps.{least_agree}

module _ (w : PendingView) where
  -- the replacers, where it is known which are alive
  replacer_is : (alive : List Bool) → alive ≡ map (is_alive w) (below (length w.pending)) → (j : ℕ) → replacer_by w.pending alive j ≡ replacer w j
  unfolding replacer
  replacer_is alive alive_are j =
      find_agree (λ k. nat_lt j k && (shares (tx_at w j) (tx_at w k) && slice_index_or alive k false)) (λ k. nat_lt j k && (shares (tx_at w j) (tx_at w k) && is_alive w k)) (below (length w.pending))
      (λ k c. ap (λ b. nat_lt j k && (shares (tx_at w j) (tx_at w k) && b))
      (ap (λ (l : List Bool). slice_index_or l k false) alive_are ∙ get_or-map_below (is_alive w) (length w.pending) k false (below_within (length w.pending) k c)))

  pub replacers_are : (alive : List Bool) (found : List (Option ℕ)) → alive ≡ map (is_alive w) (below (length w.pending)) → found ≡ map (replacer_by w.pending alive) (below (length w.pending))
      → found ≡ map (replacer w) (below (length w.pending))
  replacers_are alive found alive_are found_are = found_are ∙ map_below_same (replacer_by w.pending alive) (replacer w) (length w.pending) (λ j lt. replacer_is alive alive_are j)

  -- the first of it and its ancestors that has a replacer
  first_is : (g : List (List ℕ)) (found own : List (Option ℕ)) → g ≡ graph w → found ≡ map (replacer w) (below (length w.pending)) → own ≡ map (λ j. place_if (is_some (value_at found j)) j) (below (length found))
      → (i : ℕ) → least_by (value_at own) (kin g i) ≡ find (λ j. is_some (replacer w j)) (kin_of w i)
  first_is g found own g_is found_are own_are i =
      (λ k. least_by (value_at (own_are k)) (kin (g_is k) i))
      ∙ least_agree (value_at (map (λ j. place_if (is_some (value_at found j)) j) (below (length found)))) (λ j. place_if (is_some (replacer w j)) j) (kin_of w i) (λ j c. at j (kin_within (graph w) i j c))
      ∙ sym (first_is_least (within (graph w) (length (graph w)) i) (λ j. is_some (replacer w j)) (length (graph w)))
    where
      at : (j : ℕ) → j < length (graph w) → value_at (map (λ j. place_if (is_some (value_at found j)) j) (below (length found))) j ≡ place_if (is_some (replacer w j)) j
      at j lt =
          let m = length-map w.pending (parents w.chain w.pending) in
          let l : length found ≡ length w.pending = ap (λ (l : List (Option ℕ)). length l) found_are ∙ length-map_below (replacer w) (length w.pending) in
          get_or-map_below (λ j. place_if (is_some (value_at found j)) j) (length found) j None (omega arith)
          ∙ ap (λ (r : Option ℕ). place_if (is_some r) j) (ap (λ (l : List (Option ℕ)). value_at l j) found_are ∙ get_or-map_below (replacer w) (length w.pending) j None (omega arith))

  -- and its replacer
  replaced_is : (found : List (Option ℕ)) (i : ℕ) → found ≡ map (replacer w) (below (length w.pending)) → option_and_then (value_at found) (find (λ j. is_some (replacer w j)) (kin_of w i)) ≡ replaced w i
  unfolding replaced
  replaced_is found i found_are = by (find (λ j. is_some (replacer w j)) (kin_of w i)) (λ k e. found_below (within (graph w) (length (graph w)) i) (λ j. is_some (replacer w j)) (length (graph w)) k e)
    where
      by : (r : Option ℕ) → ((k : ℕ) → r ≡ Some k → k < length (graph w)) → option_and_then (value_at found) r ≡ option_and_then (replacer w) r
      by None h = refl
      by (Some k) h =
          let m = length-map w.pending (parents w.chain w.pending) in
          let l = h k refl in
          ap (λ (l : List (Option ℕ)). value_at l k) found_are ∙ get_or-map_below (replacer w) (length w.pending) k None (omega arith)

  -- a replacer stands in the list
  replaced_within : (i k : ℕ) → replaced w i ≡ Some k → k < length w.pending
  unfolding replaced replacer
  replaced_within i k e = by (find (λ j. is_some (replacer w j)) (kin_of w i)) e
    where
      by : (r : Option ℕ) → option_and_then (replacer w) r ≡ Some k → k < length w.pending
      by None e = absurd (none-some k e)
      by (Some j) e = find_below (λ k. nat_lt j k && (shares (tx_at w j) (tx_at w k) && is_alive w k)) (length w.pending) k e

  named : (r : Option ℕ) → ((k : ℕ) → r ≡ Some k → k < length w.pending) → option_and_then (slice_get (map txid_of w.pending)) r ≡ option_map (txid_at w.pending) r
  named None h = refl
  named (Some k) h =
      let m = length-map w.pending txid_of in
      let l = h k refl in
      slice_get-get_or (map txid_of w.pending) k [] (omega arith) ∙ ap (λ (t : List ℕ). Some t) (get_or_map txid_of w.pending k [] no_tx (omega arith))

  -- ---- the whole

  pub payments_are : (g : List (List ℕ)) (txids : List (List ℕ)) (heights : List (Option ℕ)) (conflicts : List (Option (List ℕ))) (abandoned : List Bool) (found own firsts : List (Option ℕ))
      → g ≡ graph w → txids ≡ map txid_of w.pending → heights ≡ map (height_of w.chain) txids
      → conflicts ≡ map (λ i. option_and_then (txid_in w.chain) (conflict w i)) (below (length w.pending)) → abandoned ≡ map (is_abandoned w) (below (length w.pending))
      → found ≡ map (replacer w) (below (length w.pending)) → own ≡ map (λ j. place_if (is_some (value_at found j)) j) (below (length found))
      → firsts ≡ map (λ i. least_by (value_at own) (kin g i)) (below (length g))
      → map (payment_by txids heights conflicts abandoned found firsts) (below (length txids)) ≡ payments_in w
  unfolding state_at
  payments_are g txids heights conflicts abandoned found own firsts g_is txids_are heights_are conflicts_are abandoned_are found_are own_are firsts_are =
      ap (λ m. map (payment_by txids heights conflicts abandoned found firsts) (below m)) (ap (λ (l : List (List ℕ)). length l) txids_are ∙ length-map w.pending txid_of)
      ∙ map_below_same (payment_by txids heights conflicts abandoned found firsts) (payment_at w) (length w.pending) one
    where
      one : (i : ℕ) → i < length w.pending → payment_by txids heights conflicts abandoned found firsts i ≡ payment_at w i
      one i lt =
          let m = length-map w.pending txid_of in
          let p = length-map w.pending (parents w.chain w.pending) in
          let gl : length g ≡ length w.pending = ap (λ (l : List (List ℕ)). length l) g_is ∙ p in
          let t : get_or txids i [] ≡ txid_of (tx_at w i) = ap (λ (l : List (List ℕ)). get_or l i []) txids_are ∙ get_or_map txid_of w.pending i [] no_tx lt in
          let tl : length txids ≡ length w.pending = ap (λ (l : List (List ℕ)). length l) txids_are ∙ m in
          let h : value_at heights i ≡ height_of w.chain (txid_of (tx_at w i)) = ap (λ (l : List (Option ℕ)). value_at l i) heights_are ∙ get_or_map (height_of w.chain) txids i None [] (omega arith) ∙ ap (height_of w.chain) t in
          let c : get_or conflicts i None ≡ option_and_then (txid_in w.chain) (conflict w i) =
          ap (λ (l : List (Option (List ℕ))). get_or l i None) conflicts_are ∙ get_or-map_below (λ i. option_and_then (txid_in w.chain) (conflict w i)) (length w.pending) i None lt in
          let u : get_or abandoned i false ≡ is_abandoned w i = ap (λ (l : List Bool). get_or l i false) abandoned_are ∙ get_or-map_below (is_abandoned w) (length w.pending) i false lt in
          let f : value_at firsts i ≡ find (λ j. is_some (replacer w j)) (kin_of w i) =
          ap (λ (l : List (Option ℕ)). value_at l i) firsts_are ∙ get_or-map_below (λ i. least_by (value_at own) (kin g i)) (length g) i None (omega arith) ∙ first_is g found own g_is found_are own_are i in
          let r : option_and_then (slice_get txids) (option_and_then (value_at found) (value_at firsts i)) ≡ option_map (txid_at w.pending) (replaced w i) =
          (λ k. option_and_then (slice_get (txids_are k)) ((ap (option_and_then (value_at found)) f ∙ replaced_is found i found_are) k))
          ∙ named (replaced w i) (λ k e. replaced_within i k e) in
          λ k. record { txid = t k; state = first_of (h k) (c k) (u k) (r k) }

  -- the txids are those of the list
  pub names_are : map (λ (p : Payment). p.txid) (payments_in w) ≡ map txid_of w.pending
  names_are = map-map (λ (p : Payment). p.txid) (payment_at w) (below (length w.pending)) ∙ map_places txid_of w.pending no_tx

  -- those that are alive
  pub alive_are : (heights : List (Option ℕ)) (conflicts : List (Option (List ℕ))) (abandoned alive : List Bool) → heights ≡ map (height_of w.chain) (map txid_of w.pending)
      → conflicts ≡ map (λ i. option_and_then (txid_in w.chain) (conflict w i)) (below (length w.pending)) → abandoned ≡ map (is_abandoned w) (below (length w.pending))
      → alive ≡ map (λ i. is_none (slice_index_or heights i None) && (is_none (slice_index_or conflicts i None) && not (slice_index_or abandoned i false))) (below (length heights))
      → alive ≡ map (is_alive w) (below (length w.pending))
  alive_are heights conflicts abandoned alive heights_are conflicts_are abandoned_are is =
      is
      ∙ ap (λ m. map (λ i. is_none (slice_index_or heights i None) && (is_none (slice_index_or conflicts i None) && not (slice_index_or abandoned i false))) (below m))
      (ap (λ (l : List (Option ℕ)). length l) heights_are ∙ length-map (map txid_of w.pending) (height_of w.chain) ∙ length-map w.pending txid_of)
      ∙ map_below_same (λ i. is_none (slice_index_or heights i None) && (is_none (slice_index_or conflicts i None) && not (slice_index_or abandoned i false))) (is_alive w) (length w.pending)
      (alive_is w heights conflicts abandoned heights_are conflicts_are abandoned_are)

-- a conflict is determined by the chain and the list alone
pub conflict_free : (chain : List Confirmed) (pending : List Transaction) (abandoned : List (List ℕ)) (i : ℕ) → conflict (view_by chain pending []) i ≡ conflict (view_by chain pending abandoned) i
unfolding conflict
conflict_free chain pending abandoned i = refl
