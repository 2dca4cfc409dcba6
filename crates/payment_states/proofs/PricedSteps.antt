-- The prices of coins, and what they cover.
use Rattle.std.proofs.Common.{◌≡◌, ◌≢◌, ◌∙◌, ℕ, ◌+◌, ◌<◌, ◌≤◌, true, false, cond, List, [], ◌∷◌, length, filter, Option, Some, None, All, Contains, refl, sym, ap, subst, arith}
use Rattle.std.specs.Prelude.{is_none, is_some, sum_by}
use Rattle.std.specs.List.{AllPairs, Any, cons_option, filter_map}
use Rattle.std.specs.Option.{option_map_or}
use Rattle.std.proofs.lemmas.Bool.{true≢false}
use Rattle.std.proofs.lemmas.List.Elements.{All-contains, All-head, All-map, All-tail, All-weaker}
use Rattle.std.proofs.lemmas.List.Sums.{sum_by-cons}
use Rattle.fee_rates.specs.Fee.{fee_of}
use Rattle.coin_candidates.specs.declared.candidate.Candidate.{Candidate}
use Rattle.fund_base.specs.declared.outpoint.OutPoint.{OutPoint}
use Rattle.tx_codec.specs.Transaction.{Transaction}
use Rattle.tx_codec.specs.Txid.{txid_of}
use Rattle.wallet_text.specs.PlainWallet.{PlainWallet}
use Rattle.wallet_text.specs.WalletRules.{AreDistinct, ParentsComeFirst}
use Rattle.coin_book.specs.Coins.{coins_of}
use Rattle.coin_book.specs.History.{History}
use Rattle.coin_book.specs.Spends.{height_of}
use Rattle.coin_book.specs.declared.coin.Coin.{Coin}
use Rattle.known_fees.specs.Missing.{is_known, size_of}
use Rattle.known_fees.specs.Worth.{paid_by}
use Rattle.payment_states.specs.Candidates.{candidate_at, candidate_of, candidates_of, is_candidate, price_at}
use Rattle.payment_states.specs.Causes.{HasCause, IsKin}
use Rattle.payment_states.specs.PendingView.{open_place, place_in, tx_at, view_of}
use Rattle.payment_states.specs.Prices.{IsPriced, RestsOn, price_of}
use Rattle.payment_states.specs.declared.state.State.TheVariants as state
use Rattle.payment_states.proofs.FitSteps.{all_kept}
use Rattle.payment_states.proofs.KinSteps.{no_height}
use Rattle.payment_states.proofs.MakerSteps.{at_height}
use Rattle.payment_states.proofs.Order.{all_abandoned, found_place}
use Rattle.payment_states.proofs.ParentSteps.{gives, is_open_place, open_is, own_place}
use Rattle.payment_states.proofs.PriceLaws.{packages_pay}
use Rattle.payment_states.proofs.TellSteps.{TellsTxid, coins_tell}

-- ---- the price of an outpoint

pub price_here : (w : PlainWallet) (h : History) (rate i : ℕ) (o : OutPoint) → AreDistinct w.pending → i < length w.pending → txid_of (tx_at (view_of w h) i) ≡ o.txid → height_of h.confirmed o.txid ≡ None → price_of w h rate o ≡ price_at w h rate i
price_here w h rate i o apart lt same none =
    ap (λ (p : Option ℕ). option_map_or (price_at w h rate) p 0) (is_open_place h.confirmed w.pending o.txid i none (own_place (view_of w h) i o.txid apart lt (sym same)))

-- a price of 0, where no place is open
closed : (w : PlainWallet) (h : History) (rate : ℕ) (o : OutPoint) → ((p : ℕ) → open_place h.confirmed w.pending o.txid ≡ Some p → ⊥) → price_of w h rate o ≡ 0
closed w h rate o none = by (open_place h.confirmed w.pending o.txid) refl
  where
    by : (r : Option ℕ) → open_place h.confirmed w.pending o.txid ≡ r → option_map_or (price_at w h rate) r 0 ≡ 0
    by None e = refl
    by (Some p) e = absurd (none p e)

pub confirmed_none : (w : PlainWallet) (h : History) (rate : ℕ) (o : OutPoint) → height_of h.confirmed o.txid ≢ None → price_of w h rate o ≡ 0
confirmed_none w h rate o high = closed w h rate o (λ p e. high (open_is h.confirmed w.pending o.txid p e).0)

pub unlisted_none : (w : PlainWallet) (h : History) (rate : ℕ) (o : OutPoint) → All (λ (t : Transaction). txid_of t ≢ o.txid) w.pending → price_of w h rate o ≡ 0
unlisted_none w h rate o apart =
    closed w h rate o (λ p e. let f = found_place w.pending o.txid p (open_is h.confirmed w.pending o.txid p e).1 in apart p _ f.0 (sym f.1))

-- ---- the price of a coin

-- of one that has a height exactly where its txid has
told_price : (w : PlainWallet) (h : History) (tip rate : ℕ) (c : Coin) → TellsTxid h c → (candidate_of w h tip rate c).price ≡ price_of w h rate c.coin
unfolding open_place
told_price w h tip rate c tells = by c.height (height_of h.confirmed c.coin.txid) tells
  where
    by : (height known : Option ℕ) → is_none known ≡ is_none height
        → (candidate_at w h tip rate c height (place_in w.pending c.coin.txid)).price ≡ option_map_or (price_at w h rate) (cond (is_some known) None (place_in w.pending c.coin.txid)) 0
    by None None e = refl
    by None (Some x) e = absurd (true≢false (sym e))
    by (Some n) None e = absurd (true≢false e)
    by (Some n) (Some x) e = refl

pub coin_price : (w : PlainWallet) (h : History) (tip rate : ℕ) (c : Coin) → Contains (coins_of h) c → (candidate_of w h tip rate c).price ≡ price_of w h rate c.coin
coin_price w h tip rate c there = told_price w h tip rate c (All-contains (TellsTxid h) (coins_of h) c (coins_tell h) there)

told_priced : (w : PlainWallet) (h : History) (tip rate : ℕ) (c : Coin) → TellsTxid h c → IsPriced w h rate (candidate_of w h tip rate c)
told_priced w h tip rate c tells =
    told_price w h tip rate c tells ∙ ap (λ (o : OutPoint). price_of w h rate o) (sym (at_height w h tip rate c c.height (place_in w.pending c.coin.txid)).point)

pub coin_priced : (w : PlainWallet) (h : History) (tip rate : ℕ) (c : Coin) → Contains (coins_of h) c → IsPriced w h rate (candidate_of w h tip rate c)
coin_priced w h tip rate c there = told_priced w h tip rate c (All-contains (TellsTxid h) (coins_of h) c (coins_tell h) there)

pub all_priced : (w : PlainWallet) (h : History) (tip rate : ℕ) → All (IsPriced w h rate) (candidates_of w h tip rate)
unfolding candidates_of
all_priced w h tip rate =
    All-map (IsPriced w h rate) (candidate_of w h tip rate) (filter (is_candidate w h tip) (coins_of h))
    (All-weaker (TellsTxid h) (λ (c : Coin). IsPriced w h rate (candidate_of w h tip rate c)) (told_priced w h tip rate) (filter (is_candidate w h tip) (coins_of h))
    (all_kept (TellsTxid h) (is_candidate w h tip) (coins_of h) (coins_tell h)))

-- ---- what the prices of coins cover

module _ (w : PlainWallet) (h : History) (rate : ℕ) (apart : AreDistinct w.pending) (rule : ParentsComeFirst w.pending) where
  abbrev look : Candidate → Option ℕ
  look c = open_place h.confirmed w.pending c.coin.txid

  -- the places of the transactions that made coins, one for each coin whose transaction isn't confirmed
  abbrev places : List Candidate → List ℕ
  places coins = filter_map look coins

  -- the price of the place that is found for a coin
  abbrev found_price : Option ℕ → ℕ
  found_price o = option_map_or (price_at w h rate) o 0

  sum_of_places : (coins : List Candidate) → All (IsPriced w h rate) coins → sum_by (price_at w h rate) (places coins) ≡ sum_by (λ (c : Candidate). c.price) coins
  sum_of_places [] all = refl
  sum_of_places (c ∷ cs) all = by (look c) (All-head (IsPriced w h rate) c cs all) (sum_of_places cs (All-tail (IsPriced w h rate) c cs all))
    where
      by : (o : Option ℕ) → c.price ≡ found_price o → sum_by (price_at w h rate) (filter_map look cs) ≡ sum_by (λ (c : Candidate). c.price) cs
          → sum_by (price_at w h rate) (cons_option o (filter_map look cs)) ≡ sum_by (λ (c : Candidate). c.price) (c ∷ cs)
      by None e rest = omega (arith, e, rest, sum_by-cons (λ (c : Candidate). c.price) c cs)
      by (Some p) e rest = omega (arith, e, rest, sum_by-cons (price_at w h rate) p (filter_map look cs), sum_by-cons (λ (c : Candidate). c.price) c cs)

  places_within : (coins : List Candidate) → All (λ i. i < length w.pending) (places coins)
  places_within coins = all_abandoned (λ i. i < length w.pending) look coins (λ c there p e. (found_place w.pending c.coin.txid p (open_is h.confirmed w.pending c.coin.txid p e).1).0)

  places_small : (coins : List Candidate) → All (IsPriced w h rate) coins → All (λ (c : Candidate). c.price < 2_100_000_000_000_000) coins → All (λ i. price_at w h rate i < 2_100_000_000_000_000) (places coins)
  places_small coins priced small =
      all_abandoned (λ i. price_at w h rate i < 2_100_000_000_000_000) look coins (λ c there p e.
      let same : c.price ≡ price_at w h rate p = All-contains (IsPriced w h rate) coins c priced there ∙ ap (λ (o : Option ℕ). found_price o) e in
      subst (λ n. n < 2_100_000_000_000_000) same (All-contains (λ (c : Candidate). c.price < 2_100_000_000_000_000) coins c small there))

  covered : (coins : List Candidate) (j : ℕ) → Any (λ (c : Candidate). RestsOn w h c.coin j) coins → Any (λ i. IsKin (view_of w h) i j) (places coins) × HasCause (view_of w h) j state.Pending
  covered coins j a =
      let c = a.1 in
      let rests = a.4 in
      let open_at = is_open_place h.confirmed w.pending c.coin.txid rests.place (no_height h.confirmed c.coin.txid rests.unconfirmed) (own_place (view_of w h) rests.place c.coin.txid apart rests.stands (sym rests.txid_is)) in
      let at = gives look coins c rests.place a.0 a.2 a.3 open_at in
      ((at.0, rests.place, at.1, at.2, rests.kin), rests.waits)

  pub coins_pay : (coins : List Candidate) (raised : List ℕ) (n paid : ℕ) → All (IsPriced w h rate) coins → All (λ (c : Candidate). c.price < 2_100_000_000_000_000) coins
      → AllPairs (λ (a b : ℕ). a < b) raised → All (λ j. Any (λ (c : Candidate). RestsOn w h c.coin j) coins) raised → All (λ j. is_known h w.pending (tx_at (view_of w h) j) ≡ true) raised
      → fee_of rate n + sum_by (λ (c : Candidate). c.price) coins ≤ paid
      → fee_of rate (n + sum_by (λ j. size_of (tx_at (view_of w h) j)) raised) ≤ paid + sum_by (λ j. paid_by h w.pending (tx_at (view_of w h) j)) raised
  coins_pay coins raised n paid priced small rises rest known enough =
      let same = sum_of_places coins priced in
      packages_pay w h rate apart rule (places coins) raised n paid (places_within coins) (places_small coins priced small) rises
      (All-weaker (λ j. Any (λ (c : Candidate). RestsOn w h c.coin j) coins) (λ j. Any (λ i. IsKin (view_of w h) i j) (places coins) × HasCause (view_of w h) j state.Pending) (covered coins) raised rest)
      known (omega (arith, same, enough))
