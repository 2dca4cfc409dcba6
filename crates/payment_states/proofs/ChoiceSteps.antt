-- The coins that may be spent.
use Rattle.std.proofs.Common.{◌≡◌, ◌∙◌, ℕ, zero, suc, ◌+◌, ◌<◌, ◌||◌, ◌&&◌, not, Bool, true, false, cond, List, [], ◌∷◌, ◌++◌, length, map, filter, take, Option, Some, None, refl, sym, ap, arith}
use Rattle.std.specs.Prelude.{is_some, option_and_then, slice_get, slice_index_or}
use Rattle.std.specs.List.{cons_option, filter_map, list_any}
use Rattle.std.specs.Option.{option_map_or, option_to_list}
use Rattle.std.proofs.lemmas.Option.{slice_get-get_or}
use Rattle.coin_candidates.specs.declared.candidate.Candidate.{Candidate}
use Rattle.fund_base.specs.declared.outpoint.OutPoint.{OutPoint}
use Rattle.wallet_text.specs.PlainWallet.{PlainWallet}
use Rattle.coin_book.specs.Coins.{coins_of}
use Rattle.coin_book.specs.History.{History}
use Rattle.coin_book.specs.Spends.{has_input}
use Rattle.coin_book.specs.declared.coin.Coin.{Coin}
use Rattle.payment_states.specs.Candidates.{ancestors, candidate_at, candidate_of, candidates_of, comes_from_mine, descendants, is_candidate, is_claimed, is_deep, is_locked, is_pending, is_safe, is_spent, price_at, prices_in}
use Rattle.payment_states.specs.Graph.{below}
use Rattle.payment_states.specs.Payments.{payments_in}
use Rattle.payment_states.specs.ByPlace.{candidate_by, chosen_at, flag_at, place_among, standing_by}
use Rattle.payment_states.specs.PendingView.{PendingView, no_tx, place_in, tx_at, view_of}
use Rattle.payment_states.specs.declared.state.Payment.{Payment}
use Rattle.payment_states.proofs.Below.{below_within, get_or-map_below}
use Rattle.payment_states.proofs.FactSteps.{place_is}
use Rattle.payment_states.proofs.GraphSteps.{filter_map_agree, filter_map_more}
use Rattle.payment_states.proofs.Order.{found_place}
use Rattle.payment_states.proofs.Paths.{any_agree}

-- one element more, as it is looked up
pub filter_map_get : {X Y : Type 0} (f : X → Option Y) (xs : List X) (i : ℕ) → i < length xs → filter_map f (take (i + 1) xs) ≡ filter_map f (take i xs) ++ option_to_list (option_and_then f (slice_get xs i))
filter_map_get {X = X} {Y = Y} f xs i lt = let p = pick xs i lt in filter_map_more f xs i p.0 lt ∙ ap (λ (o : Option X). filter_map f (take i xs) ++ option_to_list (option_and_then f o)) (sym (slice_get-get_or xs i p.0 lt))
  where
    pick : (xs : List X) (i : ℕ) → i < length xs → (d : X) × (slice_get xs i ≡ Some d)
    pick [] i lt = absurd (omega arith)
    pick (x ∷ xs) zero lt = (x, refl)
    pick (x ∷ xs) (suc i) lt = pick xs i (omega arith)

-- those that are given where a test passes
pub filter_map_if : {X Y : Type 0} (p : X → Bool) (f : X → Y) (xs : List X) → filter_map (λ x. cond (p x) (Some (f x)) None) xs ≡ map f (filter p xs)
filter_map_if p f [] = refl
filter_map_if {X = X} {Y = Y} p f (x ∷ xs) = by (p x) (filter_map_if p f xs)
  where
    by : (b : Bool) → filter_map (λ x. cond (p x) (Some (f x)) None) xs ≡ map f (filter p xs) → cons_option (cond b (Some (f x)) None) (filter_map (λ x. cond (p x) (Some (f x)) None) xs) ≡ map f (cond b (x ∷ filter p xs) (filter p xs))
    by true e = ap (λ (ys : List Y). f x ∷ ys) e
    by false e = e

-- what is known of the pending list is right
pub record Knows (w : PlainWallet) (h : History) (rate : ℕ) (pending safe : List Bool) (up down prices : List ℕ) : Type 0 where
  pub pending_is : pending ≡ map (is_pending (view_of w h)) (below (length w.pending))
  pub safe_is : safe ≡ map (is_safe (view_of w h) (coins_of h)) (below (length w.pending))
  pub up_is : (i : ℕ) → i < length w.pending → is_pending (view_of w h) i ≡ true → slice_index_or up i 0 ≡ ancestors (view_of w h) i
  pub down_is : (i : ℕ) → slice_index_or down i 0 ≡ descendants (view_of w h) i
  pub prices_are : prices ≡ prices_in w h rate

module _ (w : PlainWallet) (h : History) (tip rate : ℕ) (pending safe : List Bool) (up down prices : List ℕ) (k : Knows w h rate pending safe up down prices) where
  -- a coin, by how it stands
  described_is : (c : Coin) (height place : Option ℕ) (rest : Bool) → ((i : ℕ) → place ≡ Some i → i < length w.pending)
      → cond ((is_some height || flag_at pending place) && rest) (Some (candidate_by h c (standing_by tip safe up down prices height place))) None
      ≡ cond ((is_some height || option_map_or (is_pending (view_of w h)) place false) && rest) (Some (candidate_at w h tip rate c height place)) None
  described_is c (Some height) place rest within = refl
  described_is c None None rest within = refl
  described_is c None (Some i) rest within = by (is_pending (view_of w h) i) refl
    where
      flag : slice_index_or pending i false ≡ is_pending (view_of w h) i
      flag = ap (λ (l : List Bool). slice_index_or l i false) k.pending_is ∙ get_or-map_below (is_pending (view_of w h)) (length w.pending) i false (within i refl)

      safely : slice_index_or safe i false ≡ is_safe (view_of w h) (coins_of h) i
      safely = ap (λ (l : List Bool). slice_index_or l i false) k.safe_is ∙ get_or-map_below (is_safe (view_of w h) (coins_of h)) (length w.pending) i false (within i refl)

      priced : slice_index_or prices i 0 ≡ price_at w h rate i
      priced = ap (λ (l : List ℕ). slice_index_or l i 0) k.prices_are ∙ get_or-map_below (price_at w h rate) (length w.pending) i 0 (within i refl)

      stood : Bool → Bool → ℕ → ℕ → ℕ → Option Candidate
      stood b s a d p = cond (b && rest) (Some (record {
        coin = c.coin;
        value = c.value;
        weight = c.weight;
        script = c.script;
        depth = 0;
        mine = comes_from_mine h c;
        safe = s;
        ancestors = a;
        descendants = d;
        price = p;
      })) None

      none : (b : Bool) (s t : Bool) (a d p e f q : ℕ) → b ≡ false → stood b s a d p ≡ stood b t e f q
      none true s t a d p e f q off = absurd (let x : true ≡ false = off in cc)
      none false s t a d p e f q off = refl

      by : (b : Bool) → is_pending (view_of w h) i ≡ b
          → stood (slice_index_or pending i false) (slice_index_or safe i false) (slice_index_or up i 0) (slice_index_or down i 0) (slice_index_or prices i 0)
          ≡ stood (is_pending (view_of w h) i) (is_safe (view_of w h) (coins_of h) i) (ancestors (view_of w h) i) (descendants (view_of w h) i) (price_at w h rate i)
      by true e = λ j. stood (flag j) (safely j) (k.up_is i (within i refl) e j) (k.down_is i j) (priced j)
      by false e =
          ap (λ b. stood b (slice_index_or safe i false) (slice_index_or up i 0) (slice_index_or down i 0) (slice_index_or prices i 0)) flag
          ∙ none (is_pending (view_of w h) i) (slice_index_or safe i false) (is_safe (view_of w h) (coins_of h) i) (slice_index_or up i 0) (slice_index_or down i 0) (slice_index_or prices i 0)
          (ancestors (view_of w h) i) (descendants (view_of w h) i) (price_at w h rate i) e

  -- the coin, if it may be spent
  pub chosen_is : (claimed locked : OutPoint → Bool) (payments : List Payment) → payments ≡ payments_in (view_of w h) → ((o : OutPoint) → claimed o ≡ is_claimed (view_of w h) o) → ((o : OutPoint) → locked o ≡ is_locked w o)
      → (c : Coin) → chosen_at h tip pending safe up down prices (claimed c.coin) (locked c.coin) c (place_among payments c.coin.txid) ≡ cond (is_candidate w h tip c) (Some (candidate_of w h tip rate c)) None
  unfolding is_candidate
  chosen_is claimed locked payments payments_are claimed_is locked_is c =
      (λ j. chosen_at h tip pending safe up down prices (claimed_is c.coin j) (locked_is c.coin j) c ((ap (λ (ps : List Payment). place_among ps c.coin.txid) payments_are ∙ place_is (view_of w h) c.coin.txid) j))
      ∙ described_is c c.height (place_in w.pending c.coin.txid) (not (is_spent h c.coin) && (not (is_claimed (view_of w h) c.coin) && (not (is_locked w c.coin) && is_deep tip c))) (λ i e. (found_place w.pending c.coin.txid i e).0)

  pub all_are : (claimed locked : OutPoint → Bool) (payments : List Payment) → payments ≡ payments_in (view_of w h) → ((o : OutPoint) → claimed o ≡ is_claimed (view_of w h) o) → ((o : OutPoint) → locked o ≡ is_locked w o)
      → filter_map (λ (c : Coin). chosen_at h tip pending safe up down prices (claimed c.coin) (locked c.coin) c (place_among payments c.coin.txid)) (coins_of h) ≡ candidates_of w h tip rate
  unfolding candidates_of
  all_are claimed locked payments payments_are claimed_is locked_is =
      filter_map_agree (λ (c : Coin). chosen_at h tip pending safe up down prices (claimed c.coin) (locked c.coin) c (place_among payments c.coin.txid)) (λ (c : Coin). cond (is_candidate w h tip c) (Some (candidate_of w h tip rate c)) None) (coins_of h)
      (chosen_is claimed locked payments payments_are claimed_is locked_is)
      ∙ filter_map_if (is_candidate w h tip) (candidate_of w h tip rate) (coins_of h)

-- what Pending transactions spend
pub claimed_are : (w : PendingView) (flags : List Bool) (o : OutPoint) → flags ≡ map (is_pending w) (below (length w.pending))
    → list_any (λ i. slice_index_or flags i false && has_input o (slice_index_or w.pending i no_tx).inputs) (below (length w.pending)) ≡ is_claimed w o
claimed_are w flags o flags_are =
    any_agree (λ i. slice_index_or flags i false && has_input o (slice_index_or w.pending i no_tx).inputs) (λ i. is_pending w i && has_input o (tx_at w i).inputs) (below (length w.pending))
    (λ i c. ap (λ b. b && has_input o (tx_at w i).inputs) (ap (λ (l : List Bool). slice_index_or l i false) flags_are ∙ get_or-map_below (is_pending w) (length w.pending) i false (below_within (length w.pending) i c)))
