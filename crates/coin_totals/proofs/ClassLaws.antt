-- The classes of coins, by what is known of the pending list.
use Rattle.std.proofs.Common.{◌≡◌, ◌∙◌, ℕ, ◌+◌, ◌<◌, ◌||◌, ◌&&◌, not, Bool, true, false, List, [], ◌∷◌, ◌++◌, length, map, take, Option, Some, None, refl, sym, ap}
use Rattle.std.specs.Prelude.{is_some, option_and_then, option_map, slice_get, slice_index_or}
use Rattle.std.specs.List.{filter_map}
use Rattle.std.specs.Option.{option_map_or, option_to_list}
use Rattle.fund_base.specs.declared.outpoint.OutPoint.{OutPoint}
use Rattle.wallet_text.specs.PlainWallet.{PlainWallet}
use Rattle.coin_book.specs.Coins.{coins_of}
use Rattle.coin_book.specs.History.{History}
use Rattle.coin_book.specs.declared.coin.Coin.{Coin}
use Rattle.payment_states.specs.ByPlace.{flag_at, place_among}
use Rattle.payment_states.specs.Candidates.{is_candidate, is_claimed, is_deep, is_live, is_locked, is_pending, is_safe, is_spent}
use Rattle.payment_states.specs.Graph.{below}
use Rattle.payment_states.specs.Payments.{payments_in}
use Rattle.payment_states.specs.PendingView.{place_in, view_of}
use Rattle.payment_states.specs.declared.state.Payment.{Payment}
use Rattle.payment_states.proofs.Below.{get_or-map_below, map_same}
use Rattle.payment_states.proofs.ChoiceSteps.{filter_map_get}
use Rattle.payment_states.proofs.FactSteps.{place_is}
use Rattle.payment_states.proofs.Order.{found_place}
use Rattle.coin_totals.specs.ByPlace.{classed_at, classed_by}
use Rattle.coin_totals.specs.Classes.{class_by, class_of, classed, classes_of, is_spendable}
use Rattle.coin_totals.specs.declared.classes.ClassedCoin.{ClassedCoin}

-- ---- coins that may be spent

may_be : (live spent claimed locked deep confirmed safe : Bool) → (live && (not spent && (not claimed && (not locked && deep)))) ≡ is_spendable (class_by live spent claimed locked deep confirmed safe)
unfolding class_by
may_be false spent claimed locked deep confirmed safe = refl
may_be true true claimed locked deep confirmed safe = refl
may_be true false true locked deep confirmed safe = refl
may_be true false false true deep confirmed safe = refl
may_be true false false false false confirmed safe = refl
may_be true false false false true true safe = refl
may_be true false false false true false true = refl
may_be true false false false true false false = refl

pub tells_candidates : (w : PlainWallet) (h : History) (tip : ℕ) (c : Coin) → is_candidate w h tip c ≡ is_spendable (class_of w h tip c)
unfolding is_candidate
tells_candidates w h tip c =
    may_be (is_live w h c) (is_spent h c.coin) (is_claimed (view_of w h) c.coin) (is_locked w c.coin) (is_deep tip c) (is_some c.height)
    (option_map_or (is_safe (view_of w h) (coins_of h)) (place_in w.pending c.coin.txid) false)

-- ---- one coin more

some_map : {X Y : Type 0} (g : X → Y) (xs : List X) → filter_map (λ x. Some (g x)) xs ≡ map g xs
some_map g [] = refl
some_map {Y = Y} g (x ∷ xs) = ap (λ (ys : List Y). g x ∷ ys) (some_map g xs)

some_then : {X Y : Type 0} (g : X → Y) (o : Option X) → option_and_then (λ x. Some (g x)) o ≡ option_map g o
some_then g None = refl
some_then g (Some x) = refl

pub map_get : {X Y : Type 0} (g : X → Y) (xs : List X) (i : ℕ) → i < length xs → map g (take (i + 1) xs) ≡ map g (take i xs) ++ option_to_list (option_map g (slice_get xs i))
map_get {Y = Y} g xs i lt =
    sym (some_map g (take (i + 1) xs))
    ∙ filter_map_get (λ x. Some (g x)) xs i lt
    ∙ (λ k. some_map g (take i xs) k ++ option_to_list (some_then g (slice_get xs i) k))

-- ---- by the places of the pending list

module _ (w : PlainWallet) (h : History) (tip : ℕ) (pending safe : List Bool) (pending_is : pending ≡ map (is_pending (view_of w h)) (below (length w.pending))) (safe_is : safe ≡ map (is_safe (view_of w h) (coins_of h)) (below (length w.pending))) where
  flag_is : (flags : List Bool) (f : ℕ → Bool) → flags ≡ map f (below (length w.pending)) → (place : Option ℕ) → ((i : ℕ) → place ≡ Some i → i < length w.pending) → flag_at flags place ≡ option_map_or f place false
  flag_is flags f flags_are None within = refl
  flag_is flags f flags_are (Some i) within = ap (λ (l : List Bool). slice_index_or l i false) flags_are ∙ get_or-map_below f (length w.pending) i false (within i refl)

  one_is : (claimed locked : OutPoint → Bool) (payments : List Payment) → payments ≡ payments_in (view_of w h) → ((o : OutPoint) → claimed o ≡ is_claimed (view_of w h) o) → ((o : OutPoint) → locked o ≡ is_locked w o)
      → (c : Coin) → classed_by h tip pending safe claimed locked payments c ≡ classed w h tip c
  one_is claimed locked payments payments_are claimed_is locked_is c =
      let within : (i : ℕ) → place_in w.pending c.coin.txid ≡ Some i → i < length w.pending = λ i e. (found_place w.pending c.coin.txid i e).0 in
      let place : place_among payments c.coin.txid ≡ place_in w.pending c.coin.txid = ap (λ (ps : List Payment). place_among ps c.coin.txid) payments_are ∙ place_is (view_of w h) c.coin.txid in
      (λ j. classed_at h tip pending safe (claimed_is c.coin j) (locked_is c.coin j) c (place j))
      ∙ (λ j. record {
        class = class_by (is_some c.height || flag_is pending (is_pending (view_of w h)) pending_is (place_in w.pending c.coin.txid) within j) (is_spent h c.coin) (is_claimed (view_of w h) c.coin) (is_locked w c.coin) (is_deep tip c) (is_some c.height)
            (flag_is safe (is_safe (view_of w h) (coins_of h)) safe_is (place_in w.pending c.coin.txid) within j);
        value = c.value;
      })

  pub all_are : (claimed locked : OutPoint → Bool) (payments : List Payment) → payments ≡ payments_in (view_of w h) → ((o : OutPoint) → claimed o ≡ is_claimed (view_of w h) o) → ((o : OutPoint) → locked o ≡ is_locked w o)
      → map (classed_by h tip pending safe claimed locked payments) (coins_of h) ≡ classes_of w h tip
  unfolding classes_of
  all_are claimed locked payments payments_are claimed_is locked_is =
      map_same (classed_by h tip pending safe claimed locked payments) (classed w h tip) (coins_of h) (one_is claimed locked payments payments_are claimed_is locked_is)
