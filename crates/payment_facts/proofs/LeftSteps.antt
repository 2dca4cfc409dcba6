-- A wallet and its book without some pending transactions.
use Rattle.std.proofs.Common.{◌≡◌, ◌≢◌, ◌∙◌, ◌⊎◌, inl, inr, ℕ, ◌+◌, ◌-◌, ◌<◌, ◌≤◌, ◌||◌, ◌&&◌, not, Bool, true, false, cond, List, [], ◌∷◌, ◌++◌, length, map, filter, get_or, Option, Some, None, refl, sym, ap, subst, arith, Contains, All, AllPairs}
use Rattle.std.specs.Prelude.{find, is_none, is_some, nat_lt, option_map, ◌↔◌}
use Rattle.std.specs.List.{cons_option, filter_map, flat_map, list_all}
use Rattle.std.specs.Option.{option_map_or, option_or}
use Rattle.std.proofs.lemmas.Bool.{and_from, and_parts, cases_order, cond-false, le-ltb, true≢false}
use Rattle.std.proofs.lemmas.List.{append-nil, get_or_default, length-append, length-map, map-append}
use Rattle.std.proofs.lemmas.List.Elements.{All-cons, All-contains, All-contains_itself, All-filter, All-head, All-map, All-nil, All-tail, All-weaker, Contains-append_cases, Contains-append_left, filter_passes}
use Rattle.std.proofs.lemmas.List.Folds.{find-append, list_any-append}
use Rattle.std.proofs.lemmas.List.Kept.{AllPairs-filter}
use Rattle.std.proofs.lemmas.Option.{none-some, same_Some}
use Rattle.coin_candidates.specs.Candidates.{AreCandidates}
use Rattle.fund_base.specs.Outpoints.{same_outpoint}
use Rattle.coin_candidates.specs.declared.candidate.Candidate.{Candidate}
use Rattle.fund_base.specs.declared.outpoint.OutPoint.{OutPoint}
use Rattle.fund_base.proofs.Lists.{cons_cases, in_tail}
use Rattle.fund_base.proofs.OutpointLaws.{same_outpoint-Decides}
use Rattle.tx_codec.specs.Transaction.{Transaction}
use Rattle.tx_codec.specs.TransactionText.{IsTransaction}
use Rattle.tx_codec.specs.Txid.{txid_of}
use Rattle.tx_codec.specs.declared.tx.TxIn.{TxIn}
use Rattle.wallet_text.specs.PlainWallet.{PlainWallet}
use Rattle.wallet_text.specs.WalletRules.{AreDistinct, IsWallet, ParentsComeFirst, SpendsNone}
use Rattle.coin_book.proofs.OutputSteps.{coins_are}
use Rattle.coin_book.specs.Coins.{Made, coins_of, confirmed_made, is_open, made_in, made_of, parent_of, pending_made, weight_for}
use Rattle.coin_book.specs.Faults.{fault_behind, fault_of, full_at, points}
use Rattle.coin_book.specs.History.{History}
use Rattle.coin_book.specs.Spends.{height_of}
use Rattle.coin_book.specs.declared.coin.Coin.{Coin}
use Rattle.coin_book.specs.declared.fault.BookFault.{BookFault}
use Rattle.coin_book.specs.declared.fault.BookFault.TheVariants.{Full}
use Rattle.payment_states.specs.BookOf.{IsBookOf}
use Rattle.payment_states.specs.Candidates.{candidate_at, candidate_of, comes_from_mine, is_candidate, is_claimed, is_coin, is_deep, is_locked, is_mine, is_pending, is_spent}
use Rattle.payment_facts.specs.LeftOut.{comes_from_left, confirmed_candidates, confirmed_without_of, history_without, is_confirmed_candidate, left_at, left_by, left_of, stays_coin, stays_mine, wallet_without}
use Rattle.payment_states.specs.Makers.{HasMaker}
use Rattle.payment_states.specs.Offered.{MayBeSpent}
use Rattle.payment_states.specs.PendingView.{is_listed, place_in, view_of}
use Rattle.payment_states.proofs.ChoiceSteps.{filter_map_if}
use Rattle.payment_states.proofs.Below.{get_or_map}
use Rattle.payment_states.proofs.FitSteps.{all_flat, confirmed_there, few, fit_by, pending_not, some_find}
use Rattle.payment_states.proofs.MakerSteps.{at_height, maker_found}
use Rattle.payment_states.proofs.OfferSteps.{may_be_spent}
use Rattle.payment_states.proofs.Paths.{any_has}
pub use Rattle.known_fees.proofs.ListSteps.{map_from, map_has}

-- ---- lists

filter_map_append : {X Y : Type 0} (f : X → Option Y) (xs ys : List X) → filter_map f (xs ++ ys) ≡ filter_map f xs ++ filter_map f ys
filter_map_append f [] ys = refl
filter_map_append {X = X} {Y = Y} f (x ∷ xs) ys = by (f x) (filter_map_append f xs ys)
  where
    by : (o : Option Y) → filter_map f (xs ++ ys) ≡ filter_map f xs ++ filter_map f ys → cons_option o (filter_map f (xs ++ ys)) ≡ cons_option o (filter_map f xs) ++ filter_map f ys
    by None e = e
    by (Some y) e = ap (λ (l : List Y). y ∷ l) e

filter_map_none : {X Y : Type 0} (f : X → Option Y) (xs : List X) → All (λ x. f x ≡ None) xs → filter_map f xs ≡ []
filter_map_none f [] h = refl
filter_map_none {X = X} {Y = Y} f (x ∷ xs) h =
    ap (λ (o : Option Y). cons_option o (filter_map f xs)) (All-head (λ x. f x ≡ None) x xs h) ∙ filter_map_none f xs (All-tail (λ x. f x ≡ None) x xs h)

filter_map_same : {X Y : Type 0} (f g : X → Option Y) (xs : List X) → All (λ x. f x ≡ g x) xs → filter_map f xs ≡ filter_map g xs
filter_map_same f g [] h = refl
filter_map_same {X = X} {Y = Y} f g (x ∷ xs) h =
    (λ k. cons_option (All-head (λ x. f x ≡ g x) x xs h k) (filter_map_same f g xs (All-tail (λ x. f x ≡ g x) x xs h) k))

-- what is given of elements of which the last ones give nothing
front_alone : {X Y : Type 0} (f : X → Option Y) (xs ys : List X) → All (λ x. f x ≡ None) ys → filter_map f (xs ++ ys) ≡ filter_map f xs
front_alone {X = X} {Y = Y} f xs ys h = filter_map_append f xs ys ∙ ap (λ (l : List Y). filter_map f xs ++ l) (filter_map_none f ys h) ∙ append-nil (filter_map f xs)

flat_le : {X Y : Type 0} (f : X → List Y) (p q : X → Bool) (xs : List X) → length (flat_map f (filter p (filter q xs))) ≤ length (flat_map f (filter p xs))
flat_le f p q [] = omega arith
flat_le {X = X} {Y = Y} f p q (x ∷ xs) = by (q x) (p x) (flat_le f p q xs)
  where
    more : (l r : List Y) → length l ≤ length r → length (f x ++ l) ≤ length (f x ++ r)
    more l r h = let a = length-append (f x) l in let b = length-append (f x) r in omega (arith, h)

    behind : (l r : List Y) → length l ≤ length r → length l ≤ length (f x ++ r)
    behind l r h = let b = length-append (f x) r in omega (arith, h)

    inner : (b : Bool) → p x ≡ b → length (flat_map f (filter p (filter q xs))) ≤ length (flat_map f (filter p xs)) → length (flat_map f (filter p (x ∷ filter q xs))) ≤ length (flat_map f (cond b (x ∷ filter p xs) (filter p xs)))
    inner true e h = subst (λ (l : List X). length (flat_map f l) ≤ length (flat_map f (x ∷ filter p xs))) (ap (λ b. cond b (x ∷ filter p (filter q xs)) (filter p (filter q xs))) (sym e)) (more (flat_map f (filter p (filter q xs))) (flat_map f (filter p xs)) h)
    inner false e h = subst (λ (l : List X). length (flat_map f l) ≤ length (flat_map f (filter p xs))) (ap (λ b. cond b (x ∷ filter p (filter q xs)) (filter p (filter q xs))) (sym e)) h

    outer : (b : Bool) → length (flat_map f (filter p (filter q xs))) ≤ length (flat_map f (filter p xs)) → length (flat_map f (filter p (filter q xs))) ≤ length (flat_map f (cond b (x ∷ filter p xs) (filter p xs)))
    outer true h = behind (flat_map f (filter p (filter q xs))) (flat_map f (filter p xs)) h
    outer false h = h

    by : (a b : Bool) → length (flat_map f (filter p (filter q xs))) ≤ length (flat_map f (filter p xs)) → length (flat_map f (filter p (cond a (x ∷ filter q xs) (filter q xs)))) ≤ length (flat_map f (filter p (x ∷ xs)))
    by true b h = inner (p x) refl h
    by false b h = outer (p x) h

-- a confirmed coin is one of all
confirmed_in : (h : History) (m : Made) → Contains (confirmed_made h) m → Contains (made_of h) m
unfolding made_of
confirmed_in h m there = Contains-append_left (confirmed_made h) (pending_made h) m there

-- ---- the rules of wallets and books

-- some of the transactions of a list
module _ (keep : Transaction → Bool) where
  pub apart_kept : (ts : List Transaction) → AreDistinct ts → AreDistinct (filter keep ts)
  apart_kept ts h = AllPairs-filter (λ s t. txid_of s ≢ txid_of t) keep ts h

  pub order_kept : (ts : List Transaction) → ParentsComeFirst ts → ParentsComeFirst (filter keep ts)
  order_kept ts h i j d le lt = by (cases_order i j)
    where
      pairs : AllPairs SpendsNone (filter keep ts)
      pairs = AllPairs-filter SpendsNone keep ts (λ a b e up within. h a b e (omega arith) within)

      own : All (λ t. SpendsNone t t) (filter keep ts)
      own = All-filter keep (λ t. SpendsNone t t) ts (λ k e within. h k k e (omega arith) within)

      by : (i ≡ j) ⊎ ((i < j) ⊎ (j < i)) → SpendsNone (get_or (filter keep ts) i d) (get_or (filter keep ts) j d)
      by (inl e) = subst (λ k. SpendsNone (get_or (filter keep ts) k d) (get_or (filter keep ts) j d)) (sym e) (own j d lt)
      by (inr (inl up)) = pairs i j d up lt
      by (inr (inr down)) = absurd (omega arith)

module _ (gone : List (List ℕ)) where
  abbrev keep : Transaction → Bool
  keep t = not (is_listed gone (txid_of t))

  pub apart_left : (ts : List Transaction) → AreDistinct ts → AreDistinct (left_of gone ts)
  apart_left ts h = apart_kept keep ts h

  pub order_left : (ts : List Transaction) → ParentsComeFirst ts → ParentsComeFirst (left_of gone ts)
  order_left ts h = order_kept keep ts h

  pub wallet_left : (w : PlainWallet) → IsWallet w → IsWallet (wallet_without gone w)
  wallet_left w h = record {
    height = h.height;
    hash = h.hash;
    scripts = h.scripts;
    scripts_distinct = h.scripts_distinct;
    change = h.change;
    earlier = h.earlier;
    earlier_distinct = h.earlier_distinct;
    pending = All-filter keep IsTransaction w.pending h.pending;
    pending_distinct = apart_left w.pending h.pending_distinct;
    parents = order_left w.pending h.parents;
    abandoned = h.abandoned;
    locked = h.locked;
  }

  pub book_left : (w : PlainWallet) (h : History) → IsBookOf w h → IsBookOf (wallet_without gone w) (history_without gone h)
  book_left w h b = record { blocks = b.blocks; texts = b.texts; scripts = b.scripts; confirmed = b.confirmed; pending = ap (left_of gone) b.pending }

  fewer : (h : History) → length (made_of (history_without gone h)) ≤ length (made_of h)
  unfolding made_of
  fewer h =
      let a = length-append (confirmed_made h) (pending_made (history_without gone h)) in
      let b = length-append (confirmed_made h) (pending_made h) in
      omega (arith, flat_le (made_in (weight_for h.scripts) None) (is_open h.confirmed) keep h.pending)

  pub sound_left : (h : History) → fault_of h ≡ None → fault_of (history_without gone h) ≡ None
  sound_left h e =
      ap (λ (r : Option BookFault). option_or r (full_at (length (made_of (history_without gone h))))) (first (fault_behind [] (points (confirmed_made h))) e)
      ∙ cond-false (nat_lt 100_000 (length (made_of (history_without gone h)))) (Some Full) None (le-ltb 100_000 (length (made_of (history_without gone h))) (omega (arith, few h e, fewer h)))
    where
      first : (r : Option BookFault) → option_or r (full_at (length (made_of h))) ≡ None → r ≡ None
      first None e = refl
      first (Some f) e = absurd (none-some f (sym e))

  -- ---- which outpoints stay coins

  -- a pending coin's transaction is left, or it isn't
  abbrev among : List Made → OutPoint → Bool
  among ms o = is_coin (map (λ (m : Made). m.coin) ms) o

  among_append : (xs ys : List Made) (o : OutPoint) → among (xs ++ ys) o ≡ (among xs o || among ys o)
  among_append xs ys o =
      ap (λ (cs : List Coin). is_coin cs o) (map-append (λ (m : Made). m.coin) xs ys)
      ∙ list_any-append (λ (c : Coin). same_outpoint o c.coin) (map (λ (m : Made). m.coin) xs) (map (λ (m : Made). m.coin) ys)

  among_has : (P : OutPoint → Type 0) (ms : List Made) (o : OutPoint) → All (λ (m : Made). P m.coin.coin) ms → among ms o ≡ true → P o
  among_has P [] o h e = absurd (true≢false (sym e))
  among_has P (m ∷ ms) o h e = by (same_outpoint o m.coin.coin) refl e (λ r. among_has P ms o (All-tail (λ (m : Made). P m.coin.coin) m ms h) r)
    where
      by : (b : Bool) → same_outpoint o m.coin.coin ≡ b → (b || among ms o) ≡ true → (among ms o ≡ true → P o) → P o
      by true is e rest = subst P (sym ((same_outpoint-Decides o m.coin.coin).0 is)) (All-head (λ (m : Made). P m.coin.coin) m ms h)
      by false is e rest = rest e

  module _ (weigh : List ℕ → Option ℕ) (height : Option ℕ) where
    -- the coins of a transaction have its txid
    own_txid : (t : Transaction) (o : OutPoint) → among (made_in weigh height t) o ≡ true → o.txid ≡ txid_of t
    own_txid t o e = among_has (λ o. o.txid ≡ txid_of t) (made_in weigh height t) o (λ k d lt. sym ((coins_are weigh height t (get_or (made_in weigh height t) k d)).0 (k, lt, again (made_in weigh height t) k d lt)).txid) e
      where
        again : (ms : List Made) (k : ℕ) (d : Made) → k < length ms → get_or ms k (get_or ms k d) ≡ get_or ms k d
        again ms k d lt = get_or_default ms k (get_or ms k d) d lt

    listed_or : (a b l : Bool) → (a ≡ true → l ≡ true) → ((a || b) && not l) ≡ (b && not l)
    listed_or true b l h = ap (λ (x : Bool). not x) (h refl) ∙ sym (ap (λ (x : Bool). b && not x) (h refl) ∙ never b)
      where
        never : (b : Bool) → (b && false) ≡ false
        never true = refl
        never false = refl
    listed_or false b l h = refl

    kept_or : (a b l : Bool) → (a ≡ true → l ≡ false) → (a || (b && not l)) ≡ ((a || b) && not l)
    kept_or true b l h = ap (λ (x : Bool). not x) (sym (h refl))
    kept_or false b l h = refl

    pending_left : (p : Transaction → Bool) (ts : List Transaction) (o : OutPoint)
        → among (flat_map (made_in weigh height) (filter p (filter keep ts))) o ≡ (among (flat_map (made_in weigh height) (filter p ts)) o && not (is_listed gone o.txid))
    pending_left p [] o = refl
    pending_left p (t ∷ ts) o = by (is_listed gone (txid_of t)) (p t) refl refl (pending_left p ts o)
      where
        f : Transaction → List Made
        f = made_in weigh height

        goes : is_listed gone (txid_of t) ≡ true → among (f t) o ≡ true → is_listed gone o.txid ≡ true
        goes l e = ap (is_listed gone) (own_txid t o e) ∙ l

        stays : is_listed gone (txid_of t) ≡ false → among (f t) o ≡ true → is_listed gone o.txid ≡ false
        stays l e = ap (is_listed gone) (own_txid t o e) ∙ l

        by : (l b : Bool) → is_listed gone (txid_of t) ≡ l → p t ≡ b → among (flat_map f (filter p (filter keep ts))) o ≡ (among (flat_map f (filter p ts)) o && not (is_listed gone o.txid))
            → among (flat_map f (filter p (cond (not l) (t ∷ filter keep ts) (filter keep ts)))) o ≡ (among (flat_map f (cond b (t ∷ filter p ts) (filter p ts))) o && not (is_listed gone o.txid))
        by true true l e rest = rest ∙ sym (ap (λ (x : Bool). x && not (is_listed gone o.txid)) (among_append (f t) (flat_map f (filter p ts)) o) ∙ listed_or (among (f t) o) (among (flat_map f (filter p ts)) o) (is_listed gone o.txid) (goes l))
        by true false l e rest = rest
        by false true l e rest =
            ap (λ (b : Bool). among (flat_map f (cond b (t ∷ filter p (filter keep ts)) (filter p (filter keep ts)))) o) e
            ∙ among_append (f t) (flat_map f (filter p (filter keep ts))) o
            ∙ ap (λ (x : Bool). among (f t) o || x) rest
            ∙ kept_or (among (f t) o) (among (flat_map f (filter p ts)) o) (is_listed gone o.txid) (stays l)
            ∙ sym (ap (λ (x : Bool). x && not (is_listed gone o.txid)) (among_append (f t) (flat_map f (filter p ts)) o))
        by false false l e rest = ap (λ (b : Bool). among (flat_map f (cond b (t ∷ filter p (filter keep ts)) (filter p (filter keep ts)))) o) e ∙ rest

  -- confirmed coins stay, and pending ones do unless they are listed
  by_parts : (a b l n : Bool) → (a ≡ true → n ≡ false) → (b ≡ true → n ≡ true) → (a || (b && not l)) ≡ ((a || b) && not (l && n))
  by_parts true b l n ha hb = sym (ap (λ (x : Bool). not (l && x)) (ha refl) ∙ ap (λ (x : Bool). not x) (never l))
    where
      never : (l : Bool) → (l && false) ≡ false
      never true = refl
      never false = refl
  by_parts false true l n ha hb = sym (ap (λ (x : Bool). not (l && x)) (hb refl) ∙ ap (λ (x : Bool). not x) (always l))
    where
      always : (l : Bool) → (l && true) ≡ l
      always true = refl
      always false = refl
  by_parts false false l n ha hb = refl

  some_not_none : {X : Type 0} (r : Option X) → is_some r ≡ true → is_none r ≡ false
  some_not_none None e = absurd (true≢false (sym e))
  some_not_none (Some x) e = refl

  module _ (w : PlainWallet) (h : History) (rules : IsWallet w) (book : IsBookOf w h) (sound : fault_of h ≡ None) where
    pub coin_stays : (o : OutPoint) → is_coin (coins_of (history_without gone h)) o ≡ stays_coin h (is_listed gone) o
    unfolding made_of
    coin_stays o =
        among_append (confirmed_made h) (pending_made (history_without gone h)) o
        ∙ ap (λ (x : Bool). among (confirmed_made h) o || x) (pending_left (weight_for h.scripts) None (is_open h.confirmed) h.pending o)
        ∙ by_parts (among (confirmed_made h) o) (among (pending_made h) o) (is_listed gone o.txid) (is_none (height_of h.confirmed o.txid))
        (λ e. some_not_none (height_of h.confirmed o.txid) (among_has (λ p. is_some (height_of h.confirmed p.txid) ≡ true) (confirmed_made h) o (confirmed_there w h rules book sound) e))
        (λ e. among_has (λ p. is_none (height_of h.confirmed p.txid) ≡ true) (pending_made h) o (pending_not w h rules book sound) e)
        ∙ sym (ap (λ (x : Bool). x && not (is_listed gone o.txid && is_none (height_of h.confirmed o.txid))) (among_append (confirmed_made h) (pending_made h) o))

    mine_stays : (t : Transaction) → is_mine (coins_of (history_without gone h)) t ≡ stays_mine h (is_listed gone) t
    mine_stays t = all_same t.inputs
      where
        all_same : (is : List TxIn) → list_all (λ (i : TxIn). is_coin (coins_of (history_without gone h)) i.prev) is ≡ list_all (λ (i : TxIn). stays_coin h (is_listed gone) i.prev) is
        all_same [] = refl
        all_same (i ∷ is) = (λ k. coin_stays i.prev k && all_same is k)

    -- ---- confirmed coins

    -- the transaction of a confirmed coin is the same
    same_parent : (m : Made) → Contains (confirmed_made h) m → parent_of (history_without gone h) m.coin.coin ≡ parent_of h m.coin.coin
    unfolding made_of
    same_parent m there =
        ap (λ (r : Option Made). option_map (λ (x : Made). x.maker) r) (find-append test (confirmed_made h) (pending_made (history_without gone h)) ∙ by (find test (confirmed_made h)) (some_find test (confirmed_made h) ∙ any_has test (confirmed_made h) m there ((same_outpoint-Decides m.coin.coin m.coin.coin).1 refl)) ∙ sym (find-append test (confirmed_made h) (pending_made h)))
      where
        test : Made → Bool
        test x = same_outpoint m.coin.coin x.coin.coin

        by : (r : Option Made) → is_some r ≡ true → option_or r (find test (pending_made (history_without gone h))) ≡ option_or r (find test (pending_made h))
        by None e = absurd (true≢false (sym e))
        by (Some x) e = refl

    mine_is : (m : Made) → Contains (confirmed_made h) m → comes_from_left h (is_listed gone) m.coin ≡ comes_from_mine (history_without gone h) m.coin
    mine_is m there = sym (ap (λ (r : Option Transaction). option_map_or (is_mine (coins_of (history_without gone h))) r false) (same_parent m there) ∙ mapped (parent_of h m.coin.coin))
      where
        mapped : (r : Option Transaction) → option_map_or (is_mine (coins_of (history_without gone h))) r false ≡ option_map_or (stays_mine h (is_listed gone)) r false
        mapped None = refl
        mapped (Some t) = mine_stays t

    module _ (tip : ℕ) where
      abbrev coin : Made → Coin
      coin m = m.coin

      -- the candidates of the shorter list that are confirmed
      abbrev from_shorter : Coin → Option Candidate
      from_shorter c = cond (is_confirmed_candidate (wallet_without gone w) (history_without gone h) tip c) (Some (candidate_of (wallet_without gone w) (history_without gone h) tip 0 c)) None

      pub unconfirmed : (ts : List Transaction) → All (λ (m : Made). m.coin.height ≡ None) (flat_map (made_in (weight_for h.scripts) None) (filter (is_open h.confirmed) ts))
      unconfirmed ts = all_flat (λ (m : Made). m.coin.height ≡ None) (made_in (weight_for h.scripts) None) (filter (is_open h.confirmed) ts)
          (λ t there. All-weaker (Contains (made_in (weight_for h.scripts) None t)) (λ (m : Made). m.coin.height ≡ None) (λ m c. sym ((coins_are (weight_for h.scripts) None t m).0 c).height_is) (made_in (weight_for h.scripts) None t) (All-contains_itself (made_in (weight_for h.scripts) None t)))

      none_shorter : (c : Coin) → c.height ≡ None → from_shorter c ≡ None
      none_shorter c e = ap (λ (o : Option ℕ). cond (is_some o && is_candidate (wallet_without gone w) (history_without gone h) tip c) (Some (candidate_of (wallet_without gone w) (history_without gone h) tip 0 c)) None) e

      pub shorter_are : filter_map from_shorter (map coin (confirmed_made h)) ≡ confirmed_without_of w h tip gone
      unfolding made_of confirmed_without_of
      shorter_are =
          sym (front_alone from_shorter (map coin (confirmed_made h)) (map coin (pending_made (history_without gone h))) (All-map (λ (c : Coin). from_shorter c ≡ None) coin (pending_made (history_without gone h)) (All-weaker (λ (m : Made). m.coin.height ≡ None) (λ (m : Made). from_shorter m.coin ≡ None) (λ m e. none_shorter m.coin e) (pending_made (history_without gone h)) (unconfirmed (left_of gone h.pending)))))
          ∙ ap (filter_map from_shorter) (sym (map-append coin (confirmed_made h) (pending_made (history_without gone h))))
          ∙ filter_map_if (is_confirmed_candidate (wallet_without gone w) (history_without gone h) tip) (candidate_of (wallet_without gone w) (history_without gone h) tip 0) (coins_of (history_without gone h))

      -- the book has the transaction of each
      pub makers_left : All (HasMaker h) (confirmed_without_of w h tip gone)
      makers_left = subst (λ (l : List Candidate). All (HasMaker h) l) shorter_are
          (all_given_map (confirmed_made h) (λ m there c e.
          subst (HasMaker h) (given_is m c e)
          (maker_found w h rules book sound m (candidate_of (wallet_without gone w) (history_without gone h) tip 0 m.coin) (confirmed_in h m there) (at_height (wallet_without gone w) (history_without gone h) tip 0 m.coin m.coin.height (place_in (left_of gone w.pending) m.coin.coin.txid)))))
        where
          given_is : (m : Made) (c : Candidate) → from_shorter m.coin ≡ Some c → candidate_of (wallet_without gone w) (history_without gone h) tip 0 m.coin ≡ c
          given_is m c e = by (is_confirmed_candidate (wallet_without gone w) (history_without gone h) tip m.coin) e
            where
              by : (b : Bool) → cond b (Some (candidate_of (wallet_without gone w) (history_without gone h) tip 0 m.coin)) None ≡ Some c → candidate_of (wallet_without gone w) (history_without gone h) tip 0 m.coin ≡ c
              by true e = same_Some (candidate_of (wallet_without gone w) (history_without gone h) tip 0 m.coin) c e
              by false e = absurd (none-some c e)

          all_given_map : (ms : List Made) → ((m : Made) → Contains ms m → (c : Candidate) → from_shorter m.coin ≡ Some c → HasMaker h c) → All (HasMaker h) (filter_map from_shorter (map coin ms))
          all_given_map [] f = All-nil (HasMaker h)
          all_given_map (m ∷ ms) f = by (from_shorter m.coin) refl (all_given_map ms (λ x there. f x (in_tail m ms x there)))
            where
              by : (o : Option Candidate) → from_shorter m.coin ≡ o → All (HasMaker h) (filter_map from_shorter (map coin ms)) → All (HasMaker h) (cons_option o (filter_map from_shorter (map coin ms)))
              by None e rest = rest
              by (Some c) e rest = All-cons (HasMaker h) c (filter_map from_shorter (map coin ms)) (f m (0, omega arith, refl) c e) rest

      -- a coin of this height that stands so, where the other rules hold
      abbrev stood : Coin → Bool → Bool → Option ℕ → Option Candidate
      stood c own rest None = None
      stood c own rest (Some height) =
          cond rest (Some (record {
            coin = c.coin;
            value = c.value;
            weight = c.weight;
            script = c.script;
            depth = tip + 1 - height;
            mine = own;
            safe = true;
            ancestors = 0;
            descendants = 0;
            price = 0;
          })) None

      -- the coin's transaction is Pending in the shorter list
      abbrev waits : Coin → Bool
      waits c = option_map_or (is_pending (view_of (wallet_without gone w) (history_without gone h))) (place_in (left_of gone w.pending) c.coin.txid) false

      -- by its height, and whether the other rules hold
      by_height : (c : Coin) (height place : Option ℕ) (waiting rest : Bool) → comes_from_left h (is_listed gone) c ≡ comes_from_mine (history_without gone h) c
          → stood c (comes_from_left h (is_listed gone) c) rest height ≡ cond (is_some height && ((is_some height || waiting) && rest)) (Some (candidate_at (wallet_without gone w) (history_without gone h) tip 0 c height place)) None
      by_height c None place waiting rest e = refl
      by_height c (Some height) place waiting rest e = ap (λ (b : Bool). stood c b rest (Some height)) e

      module _ (claimed locked : OutPoint → Bool) (claimed_is : (o : OutPoint) → claimed o ≡ is_claimed (view_of (wallet_without gone w) (history_without gone h)) o) (locked_is : (o : OutPoint) → locked o ≡ is_locked (wallet_without gone w) o) where
        abbrev from_left : Coin → Option Candidate
        from_left c = left_by h (is_listed gone) tip (claimed c.coin) (locked c.coin) c

        left_stood : (c : Coin) (height : Option ℕ) → left_at h (is_listed gone) tip (claimed c.coin) (locked c.coin) c height
            ≡ stood c (comes_from_left h (is_listed gone) c) (not (is_spent h c.coin) && (not (claimed c.coin) && (not (locked c.coin) && is_deep tip c))) height
        left_stood c None = refl
        left_stood c (Some height) = refl

        same_at : (m : Made) → Contains (confirmed_made h) m → from_left m.coin ≡ from_shorter m.coin
        unfolding is_candidate
        same_at m there =
            left_stood m.coin m.coin.height
            ∙ (λ k. stood m.coin (comes_from_left h (is_listed gone) m.coin) (not (is_spent h m.coin.coin) && (not (claimed_is m.coin.coin k) && (not (locked_is m.coin.coin k) && is_deep tip m.coin))) m.coin.height)
            ∙ by_height m.coin m.coin.height (place_in (left_of gone w.pending) m.coin.coin.txid) (waits m.coin)
            (not (is_spent h m.coin.coin) && (not (is_claimed (view_of (wallet_without gone w) (history_without gone h)) m.coin.coin) && (not (is_locked (wallet_without gone w) m.coin.coin) && is_deep tip m.coin)))
            (mine_is m there)

        none_left : (c : Coin) → c.height ≡ None → from_left c ≡ None
        none_left c e = ap (left_at h (is_listed gone) tip (claimed c.coin) (locked c.coin) c) e

        pub all_are : filter_map from_left (coins_of h) ≡ confirmed_without_of w h tip gone
        unfolding made_of
        all_are =
            ap (filter_map from_left) (map-append coin (confirmed_made h) (pending_made h))
            ∙ front_alone from_left (map coin (confirmed_made h)) (map coin (pending_made h)) (All-map (λ (c : Coin). from_left c ≡ None) coin (pending_made h) (All-weaker (λ (m : Made). m.coin.height ≡ None) (λ (m : Made). from_left m.coin ≡ None) (λ m e. none_left m.coin e) (pending_made h) (unconfirmed h.pending)))
            ∙ filter_map_same from_left from_shorter (map coin (confirmed_made h)) (All-map (λ (c : Coin). from_left c ≡ from_shorter c) coin (confirmed_made h) (All-weaker (Contains (confirmed_made h)) (λ (m : Made). from_left m.coin ≡ from_shorter m.coin) same_at (confirmed_made h) (All-contains_itself (confirmed_made h))))
            ∙ shorter_are

-- ---- what comes

-- candidates of a list by a test, by what is known of them
pub left_fit : (w : PlainWallet) (h : History) (gone : List (List ℕ)) (tip : ℕ) → IsWallet w → IsBookOf w h → fault_of h ≡ None → AreCandidates (confirmed_without_of w h tip gone)
unfolding confirmed_without_of
left_fit w h gone tip rules book sound =
    fit_by (wallet_without gone w) (history_without gone h) (wallet_left gone w rules) (book_left gone w h book) (sound_left gone h sound) tip 0 (is_confirmed_candidate (wallet_without gone w) (history_without gone h) tip)

pub filter_in : {X : Type 0} (p : X → Bool) (xs : List X) (x : X) → Contains (filter p xs) x → Contains xs x × (p x ≡ true)
filter_in p xs x c = (All-contains (Contains xs) (filter p xs) x (All-filter p (Contains xs) xs (All-contains_itself xs)) c, All-contains (λ y. p y ≡ true) (filter p xs) x (filter_passes p xs) c)

pub in_filter : {X : Type 0} (p : X → Bool) (xs : List X) (x : X) → Contains xs x → p x ≡ true → Contains (filter p xs) x
in_filter p [] x c e = let lt = c.1 in absurd (omega arith)
in_filter {X = X} p (y ∷ xs) x c e = by (cons_cases y xs x c) (p y) refl (λ h. in_filter p xs x h e)
  where
    by : (y ≡ x) ⊎ Contains xs x → (b : Bool) → p y ≡ b → (Contains xs x → Contains (filter p xs) x) → Contains (cond b (y ∷ filter p xs) (filter p xs)) x
    by (inl s) true is rest = (0, omega arith, s)
    by (inl s) false is rest = absurd (true≢false (sym e ∙ ap p (sym s) ∙ is))
    by (inr h) true is rest = in_tail y (filter p xs) x (rest h)
    by (inr h) false is rest = rest h

there_is : (r : Option ℕ) → is_some r ≡ true → r ≢ None
there_is None e s = true≢false (sym e)
there_is (Some n) e s = none-some n (sym s)

is_there : (r : Option ℕ) → r ≢ None → is_some r ≡ true
is_there None ne = absurd (ne refl)
is_there (Some n) ne = refl

abbrev IsLeft : PlainWallet → History → ℕ → Candidate → Type 0
IsLeft w h tip c = (k : Coin) × Contains (coins_of h) k × (k.height ≢ None) × MayBeSpent w h tip k × (candidate_of w h tip 0 k ≡ c)

are_left : (w : PlainWallet) (h : History) (tip : ℕ) (c : Candidate) → AreDistinct w.pending → ParentsComeFirst w.pending → (Contains (confirmed_candidates w h tip) c ↔ IsLeft w h tip c)
are_left w h tip c apart rule = (there, back)
  where
    q : Coin → Bool
    q k = is_confirmed_candidate w h tip k

    there : Contains (confirmed_candidates w h tip) c → IsLeft w h tip c
    there in' =
        let m = map_from (candidate_of w h tip 0) (filter q (coins_of h)) c in' in
        let f = filter_in q (coins_of h) m.0 m.1 in
        let both = and_parts (is_some m.0.height) (is_candidate w h tip m.0) f.1 in
        (m.0, f.0, there_is m.0.height both.0, (may_be_spent w h tip m.0 apart rule).0 both.1, m.2)

    back : IsLeft w h tip c → Contains (confirmed_candidates w h tip) c
    back l =
        subst (Contains (confirmed_candidates w h tip)) l.4
        (map_has (candidate_of w h tip 0) (filter q (coins_of h)) l.0 (in_filter q (coins_of h) l.0 l.1 (and_from (is_some l.0.height) (is_candidate w h tip l.0) (is_there l.0.height l.2) ((may_be_spent w h tip l.0 apart rule).1 l.3))))

pub left_exact : (w : PlainWallet) (h : History) (tip : ℕ) (gone : List (List ℕ)) (c : Candidate) → IsWallet w → (Contains (confirmed_without_of w h tip gone) c ↔ IsLeft (wallet_without gone w) (history_without gone h) tip c)
unfolding confirmed_without_of
left_exact w h tip gone c rules = are_left (wallet_without gone w) (history_without gone h) tip c (apart_left gone w.pending rules.pending_distinct) (order_left gone w.pending rules.parents)

-- ---- a confirmed coin of the shorter list is one of the whole

pub stays_in : (w : PlainWallet) (h : History) (gone : List (List ℕ)) (tip : ℕ) (k : Coin) → IsWallet w → IsBookOf w h → fault_of h ≡ None → Contains (coins_of (history_without gone h)) k → k.height ≢ None → Contains (coins_of h) k
unfolding made_of
stays_in w h gone tip k rules book sound there high =
    let m = map_from (λ (m : Made). m.coin) (confirmed_made h ++ pending_made (history_without gone h)) k there in
    at m.0 m.2 (Contains-append_cases (confirmed_made h) (pending_made (history_without gone h)) m.0 m.1)
  where
    at : (m : Made) → m.coin ≡ k → Contains (confirmed_made h) m ⊎ Contains (pending_made (history_without gone h)) m → Contains (map (λ (m : Made). m.coin) (confirmed_made h ++ pending_made h)) k
    at m is (inl c) = subst (Contains (map (λ (m : Made). m.coin) (confirmed_made h ++ pending_made h))) is (map_has (λ (m : Made). m.coin) (confirmed_made h ++ pending_made h) m (Contains-append_left (confirmed_made h) (pending_made h) m c))
    at m is (inr c) = absurd (high (ap (λ (x : Coin). x.height) (sym is) ∙ All-contains (λ (m : Made). m.coin.height ≡ None) (pending_made (history_without gone h)) m (unconfirmed gone w h rules book sound tip (left_of gone h.pending)) c))
