-- Presets and what may be added are different coins of one book.
use Rattle.std.proofs.Common.{◌≡◌, ◌≢◌, ◌∙◌, ◌⊎◌, inl, inr, ℕ, suc, ◌≤◌, ◌++◌, ◌&&◌, not, Bool, true, false, cond, List, [], ◌∷◌, length, map, filter, Option, Some, None, refl, sym, ap, subst, arith, Contains, All, AllPairs}
use Rattle.std.specs.Prelude.{bytes_eq, fold, option_map}
use Rattle.std.specs.Bool.{Decides}
use Rattle.std.specs.Cmp.{IsEquivalence}
use Rattle.std.specs.List.{cons_option, list_any}
use Rattle.std.proofs.lemmas.Bool.{true≢false}
use Rattle.std.proofs.lemmas.Bool.Decides.{same_from_decides}
use Rattle.std.proofs.lemmas.List.{length-append, length-map}
use Rattle.std.proofs.lemmas.List.Elements.{All-append, All-contains, All-contains_itself, All-filter, All-map, All-weaker}
use Rattle.std.proofs.lemmas.Map.Made.{IsDistinct-from_AllPairs, is_member-Decides, length-le_from_is_member}
use Rattle.std.proofs.lemmas.Option.{none-some}
use Rattle.std.proofs.lemmas.Slice.Eq.{bytes_eq-Decides}
use Rattle.std.proofs.lemmas.List.Kept.{AllPairs-cons, AllPairs-filter}
use Rattle.coin_candidates.specs.Candidates.{AreCandidates, IsCandidate}
use Rattle.fund_base.specs.Outpoints.{same_outpoint}
use Rattle.coin_candidates.specs.declared.candidate.Candidate.{Candidate}
use Rattle.fund_base.specs.declared.outpoint.OutPoint.{OutPoint}
use Rattle.fund_base.proofs.Lists.{any_found, cons_cases, in_tail}
use Rattle.fund_base.proofs.OutpointLaws.{same_outpoint-Decides}
use Rattle.wallet_text.specs.PlainWallet.{PlainWallet}
use Rattle.wallet_text.specs.WalletRules.{IsWallet}
use Rattle.coin_book.specs.AtOutpoint.{coin_under}
use Rattle.coin_book.specs.Coins.{Made, coins_of, made_of}
use Rattle.coin_book.specs.Faults.{fault_of}
use Rattle.coin_book.specs.History.{History}
use Rattle.coin_book.specs.declared.coin.Coin.{Coin}
use Rattle.payment_facts.specs.AnyCoin.{facts_among, facts_at}
use Rattle.payment_states.specs.BookOf.{IsBookOf}
use Rattle.payment_states.specs.Candidates.{candidate_of}
use Rattle.payment_facts.specs.LeftOut.{confirmed_without_of, history_without, wallet_without}
use Rattle.payment_states.specs.Makers.{HasMaker}
use Rattle.payment_states.specs.PendingView.{is_listed, place_in}
use Rattle.payment_facts.proofs.AnySteps.{all_facts_fit, own_facts, under}
use Rattle.payment_states.proofs.FactSteps.{filter_agree_in}
use Rattle.payment_states.proofs.FitSteps.{few}
use Rattle.payment_facts.proofs.LeftSteps.{left_exact, left_fit, makers_left, map_has, stays_in}
use Rattle.payment_states.proofs.MakerSteps.{at_height, coin_in}
use Rattle.payment_states.proofs.Paths.{any_has}
use Rattle.known_fees.proofs.ListSteps.{apart_both, apart_head, apart_tail}
pub use Rattle.known_fees.proofs.OnceSteps.{once_apart}
use Rattle.fee_bump.specs.Bump.{added_of, is_among}
use Rattle.fee_bump.proofs.TermLaws.{added_told, given_from, given_has, point_is}

-- ---- lists of different elements

-- a test that decides whether two are one
equal_by : {K : Type 0} (eq : K → K → Bool) → ((a b : K) → Decides (eq a b) (a ≡ b)) → IsEquivalence eq
equal_by eq same = record {
  refl = λ x. (same x x).1 refl;
  symm = λ x y. same_from_decides (eq x y) (eq y x) (same x y) (λ e. sym ((same y x).0 e), λ e. (same y x).1 (sym e));
  congr = λ x y z e. ap (λ w. eq w z) ((same x y).0 e);
}

-- different outpoints, all of them among others, are no more than these
distinct_count : (xs ys : List OutPoint) → AllPairs (λ (a b : OutPoint). a ≢ b) xs → All (Contains ys) xs → length xs ≤ length ys
distinct_count xs ys apart held =
    length-le_from_is_member (equal_by same_outpoint same_outpoint-Decides) xs ys (IsDistinct-from_AllPairs same_outpoint-Decides xs apart)
    (λ q there. (is_member-Decides same_outpoint-Decides ys q).1 (All-contains (Contains ys) xs q held ((is_member-Decides same_outpoint-Decides xs q).0 there)))

-- what differs by a value has different values
mapped_apart : {X Y : Type 0} (f : X → Y) (xs : List X) → AllPairs (λ (a b : X). f a ≢ f b) xs → AllPairs (λ (a b : Y). a ≢ b) (map f xs)
mapped_apart f [] h = λ i j d up below. absurd (omega (arith, below))
mapped_apart {X = X} {Y = Y} f (x ∷ xs) h =
    AllPairs-cons (λ (a b : Y). a ≢ b) (f x) (map f xs) (All-map (λ (b : Y). f x ≢ b) f xs (apart_head (λ (a b : X). f a ≢ f b) x xs h)) (mapped_apart f xs (apart_tail (λ (a b : X). f a ≢ f b) x xs h))

-- ---- coins of one book

abbrev Differ : Candidate → Candidate → Type 0
Differ a b = a.coin ≢ b.coin

-- what is known at different outpoints is of different coins
known_apart : (w : PlainWallet) (h : History) (tip rate : ℕ) (points : List OutPoint) → AllPairs (λ (a b : OutPoint). a ≢ b) points → AllPairs Differ (facts_among w h tip rate points)
known_apart w h tip rate [] apart = λ i j d up below. absurd (omega (arith, below))
known_apart w h tip rate (o ∷ points) apart = by (facts_at w h tip rate o) refl (known_apart w h tip rate points (apart_tail (λ (a b : OutPoint). a ≢ b) o points apart))
  where
    other : (c : Candidate) → facts_at w h tip rate o ≡ Some c → (d : Candidate) → Contains (facts_among w h tip rate points) d → Differ c d
    other c e d there same =
        let g = given_from (facts_at w h tip rate) points d there in
        All-contains (λ (b : OutPoint). o ≢ b) points g.0 (apart_head (λ (a b : OutPoint). a ≢ b) o points apart) g.1
        (sym (point_is w h tip rate o c e) ∙ same ∙ point_is w h tip rate g.0 d g.2)

    by : (r : Option Candidate) → facts_at w h tip rate o ≡ r → AllPairs Differ (facts_among w h tip rate points) → AllPairs Differ (cons_option r (facts_among w h tip rate points))
    by None e rest = rest
    by (Some c) e rest = AllPairs-cons Differ c (facts_among w h tip rate points) (All-weaker (Contains (facts_among w h tip rate points)) (Differ c) (λ d there. other c e d there) (facts_among w h tip rate points) (All-contains_itself (facts_among w h tip rate points))) rest

module _ (w : PlainWallet) (h : History) (tip rate : ℕ) (rules : IsWallet w) (book : IsBookOf w h) (sound : fault_of h ≡ None) where
  abbrev points : List OutPoint
  points = map (λ (c : Coin). c.coin) (coins_of h)

  known_held : (o : OutPoint) (c : Candidate) → facts_at w h tip rate o ≡ Some c → Contains points c.coin
  unfolding facts_at
  known_held o c known = by (coin_under h o) refl known
    where
      by : (r : Option Coin) → coin_under h o ≡ r → option_map (candidate_of w h tip rate) r ≡ Some c → Contains points c.coin
      by None is e = absurd (none-some c e)
      by (Some k) is e =
          let u = under h o k is in
          let there : Contains (coins_of h) k = subst (Contains (coins_of h)) u.coin_is (coin_in h u.made u.there) in
          let point : c.coin ≡ k.coin = point_is w h tip rate o c known ∙ u.point in
          subst (Contains points) (sym point) (map_has (λ (c : Coin). c.coin) (coins_of h) k there)

  -- a confirmed coin of the shorter list is one of the book
  record IsHeld (c : Candidate) : Type 0 where
    pub coin : Coin
    pub there : Contains (coins_of h) coin
    pub point : c.coin ≡ coin.coin
    pub high : coin.height ≢ None

  left_coin : (gone : List (List ℕ)) (c : Candidate) → Contains (confirmed_without_of w h tip gone) c → IsHeld c
  left_coin gone c there =
      let l = (left_exact w h tip gone c rules).0 there in
      let k = l.0 in
      record {
        coin = k;
        there = stays_in w h gone tip k rules book sound l.1 l.2;
        point = ap (λ (x : Candidate). x.coin) (sym l.4) ∙ (at_height (wallet_without gone w) (history_without gone h) tip 0 k k.height (place_in (wallet_without gone w).pending k.coin.txid)).point;
        high = l.2;
      }

  -- what may be added are outputs of confirmed transactions
  pub added_high : (presets : List Candidate) (gone : List (List ℕ))
      → All (λ (c : Candidate). (k : Coin) × Contains (coins_of h) k × (k.coin ≡ c.coin) × (k.height ≢ None)) (added_of presets (confirmed_without_of w h tip gone) gone)
  added_high presets gone =
      All-weaker (Contains (added_of presets (confirmed_without_of w h tip gone) gone)) (λ (c : Candidate). (k : Coin) × Contains (coins_of h) k × (k.coin ≡ c.coin) × (k.height ≢ None))
      (λ c there. let l = left_coin gone c ((added_told presets (confirmed_without_of w h tip gone) gone c).0 there).0 in (l.coin, l.there, sym l.point, l.high))
      (added_of presets (confirmed_without_of w h tip gone) gone) (All-contains_itself (added_of presets (confirmed_without_of w h tip gone) gone))

  left_held : (gone : List (List ℕ)) (c : Candidate) → Contains (confirmed_without_of w h tip gone) c → Contains points c.coin
  left_held gone c there =
      let l = left_coin gone c there in
      subst (Contains points) (sym l.point) (map_has (λ (c : Coin). c.coin) (coins_of h) l.coin l.there)

  -- ---- which of them are presets

  -- a coin of the book at one of these outpoints is known among them
  among_points : (spent : List OutPoint) (c : Candidate) → IsHeld c → list_any (same_outpoint c.coin) spent ≡ is_among (facts_among w h tip rate spent) c
  among_points spent c held =
      same_from_decides (list_any (same_outpoint c.coin) spent) (is_among (facts_among w h tip rate spent) c) (is_member-Decides same_outpoint-Decides spent c.coin) (there, back)
    where
      there : is_among (facts_among w h tip rate spent) c ≡ true → Contains spent c.coin
      there e =
          let f = any_found (λ (p : Candidate). same_outpoint c.coin p.coin) (facts_among w h tip rate spent) e in
          let g = given_from (facts_at w h tip rate) spent f.0 f.1 in
          subst (Contains spent) (sym ((same_outpoint-Decides c.coin f.0.coin).0 f.2 ∙ point_is w h tip rate g.0 f.0 g.2)) g.1

      back : Contains spent c.coin → is_among (facts_among w h tip rate spent) c ≡ true
      back in' =
          let facts : facts_at w h tip rate c.coin ≡ Some (candidate_of w h tip rate held.coin) = ap (facts_at w h tip rate) held.point ∙ own_facts w h tip rate held.coin rules book sound held.there in
          any_has (λ (p : Candidate). same_outpoint c.coin p.coin) (facts_among w h tip rate spent) (candidate_of w h tip rate held.coin)
          (given_has (facts_at w h tip rate) spent c.coin (candidate_of w h tip rate held.coin) in' facts)
          ((same_outpoint-Decides c.coin (candidate_of w h tip rate held.coin).coin).1 (sym (point_is w h tip rate c.coin (candidate_of w h tip rate held.coin) facts)))

  listed_same : (gone : List (List ℕ)) (txid : List ℕ) → list_any (bytes_eq txid) gone ≡ is_listed gone txid
  listed_same gone txid = same_from_decides (list_any (bytes_eq txid) gone) (is_listed gone txid) (is_member-Decides bytes_eq-Decides gone txid) (there, back)
    where
      there : is_listed gone txid ≡ true → Contains gone txid
      there e = let f = any_found (λ x. bytes_eq x txid) gone e in subst (Contains gone) ((bytes_eq-Decides f.0 txid).0 f.2) f.1

      back : Contains gone txid → is_listed gone txid ≡ true
      back in' = any_has (λ x. bytes_eq x txid) gone txid in' ((bytes_eq-Decides txid txid).1 refl)

  -- what is chosen by outpoints and txids is what may be added
  pub added_by : (gone : List (List ℕ)) (spent : List OutPoint)
      → filter (λ (c : Candidate). not (list_any (same_outpoint c.coin) spent) && not (list_any (bytes_eq c.coin.txid) gone)) (confirmed_without_of w h tip gone) ≡ added_of (facts_among w h tip rate spent) (confirmed_without_of w h tip gone) gone
  added_by gone spent =
      filter_agree_in (λ (c : Candidate). not (list_any (same_outpoint c.coin) spent) && not (list_any (bytes_eq c.coin.txid) gone))
      (λ (c : Candidate). not (is_among (facts_among w h tip rate spent) c) && not (is_listed gone c.coin.txid)) (confirmed_without_of w h tip gone)
      (λ c there. (λ k. not (among_points spent c (left_coin gone c there) k) && not (listed_same gone c.coin.txid k)))

  module _ (gone : List (List ℕ)) (spent : List OutPoint) (apart : AllPairs (λ (a b : OutPoint). a ≢ b) spent) where
    abbrev presets : List Candidate
    presets = facts_among w h tip rate spent

    abbrev coins : List Candidate
    coins = confirmed_without_of w h tip gone

    abbrev added : List Candidate
    added = added_of presets coins gone

    fits : AreCandidates coins
    fits = left_fit w h gone tip rules book sound

    both_apart : AllPairs Differ (presets ++ added)
    both_apart =
        apart_both Differ presets added (known_apart w h tip rate spent apart)
        (AllPairs-filter Differ (λ (c : Candidate). not (is_among presets c) && not (is_listed gone c.coin.txid)) coins fits.distinct)
        (λ a b first second. All-contains (λ (p : Candidate). p.coin ≢ b.coin) presets a ((added_told presets coins gone b).0 second).1 first)

    presets_held : All (λ (c : Candidate). Contains points c.coin) presets
    presets_held =
        All-weaker (Contains presets) (λ (c : Candidate). Contains points c.coin)
        (λ c there. let g = given_from (facts_at w h tip rate) spent c there in known_held g.0 c g.2) presets (All-contains_itself presets)

    added_held : All (λ (c : Candidate). Contains points c.coin) added
    added_held =
        All-weaker (Contains added) (λ (c : Candidate). Contains points c.coin)
        (λ c there. left_held gone c ((added_told presets coins gone c).0 there).0) added (All-contains_itself added)

    both_few : length (presets ++ added) ≤ 100_000
    both_few =
        let coin : Candidate → OutPoint = λ c. c.coin in
        let all = distinct_count (map coin (presets ++ added)) points (mapped_apart coin (presets ++ added) both_apart)
        (All-map (Contains points) coin (presets ++ added) (All-append (λ (c : Candidate). Contains points c.coin) presets added presets_held added_held)) in
        let a = length-map (presets ++ added) coin in
        let b = length-map (coins_of h) (λ (c : Coin). c.coin) in
        let m = length-map (made_of h) (λ (m : Made). m.coin) in
        let most = few h sound in
        omega arith

    known_fit : All (λ (c : Candidate). IsCandidate c × HasMaker h c) presets
    known_fit = all_facts_fit w h tip rate spent rules book sound

    -- the presets are fit for a plan
    pub presets_fit : AreCandidates presets
    presets_fit = record {
      each = All-weaker (λ (c : Candidate). IsCandidate c × HasMaker h c) IsCandidate (λ c k. k.0) presets known_fit;
      count = let n = length-append presets added in let few = both_few in omega arith;
      distinct = known_apart w h tip rate spent apart;
    }

    -- and together with what may be added
    pub both_fit : AreCandidates (presets ++ added)
    both_fit = record {
      each = All-append IsCandidate presets added
          (All-weaker (λ (c : Candidate). IsCandidate c × HasMaker h c) IsCandidate (λ c k. k.0) presets known_fit)
          (All-filter (λ (c : Candidate). not (is_among presets c) && not (is_listed gone c.coin.txid)) IsCandidate coins fits.each);
      count = both_few;
      distinct = both_apart;
    }

    -- and each has a transaction
    pub both_made : All (HasMaker h) (presets ++ added)
    both_made =
        All-append (HasMaker h) presets added
        (All-weaker (λ (c : Candidate). IsCandidate c × HasMaker h c) (HasMaker h) (λ c k. k.1) presets known_fit)
        (All-filter (λ (c : Candidate). not (is_among presets c) && not (is_listed gone c.coin.txid)) (HasMaker h) coins (makers_left gone w h rules book sound tip))
