-- What is known of any coin.
use Rattle.std.proofs.Common.{◌≡◌, ◌≢◌, ◌∙◌, ℕ, ◌+◌, ◌-◌, ◌<◌, Bool, true, false, List, length, filter, Option, Some, None, Result, Ok, Err, refl, sym, ap, subst, Contains, All}
use Rattle.std.specs.Prelude.{find, is_some, option_map, slice_index_or, ◌↔◌, IfSome, OnErr}
use Rattle.std.specs.List.{list_any}
use Rattle.std.specs.Option.{option_map_or}
use Rattle.std.proofs.lemmas.Bool.{false_from_ne_true, true≢false}
use Rattle.std.proofs.lemmas.List.Elements.{All-contains_itself, All-map, All-weaker}
use Rattle.std.proofs.lemmas.List.Folds.{list_any_none}
use Rattle.std.proofs.lemmas.Option.{none-some, same_Some}
use Rattle.coin_candidates.specs.Candidates.{IsCandidate}
use Rattle.fund_base.specs.Outpoints.{same_outpoint}
use Rattle.coin_candidates.specs.declared.candidate.Candidate.{Candidate}
use Rattle.fund_base.specs.declared.outpoint.OutPoint.{OutPoint}
use Rattle.fund_base.proofs.OutpointLaws.{same_outpoint-Decides}
use Rattle.fund_base.proofs.Lists.{found_some}
use Rattle.wallet_text.specs.PlainWallet.{PlainWallet}
use Rattle.wallet_text.specs.WalletRules.{IsWallet}
use Rattle.coin_book.specs.AtOutpoint.{coin_under}
use Rattle.tx_codec.specs.Transaction.{Transaction}
use Rattle.coin_book.specs.Coins.{Made, coins_of, made_of}
use Rattle.coin_book.specs.Faults.{fault_of}
use Rattle.coin_book.specs.History.{History}
use Rattle.coin_book.specs.declared.coin.Coin.{Coin}
use Rattle.payment_facts.specs.AnyCoin.{AreFacts, facts_among, facts_at, waiting_at}
use Rattle.payment_states.specs.BookOf.{IsBookOf}
use Rattle.payment_states.specs.Candidates.{ancestors, candidate_of, candidates_of, is_candidate, candidate_at, is_safe, price_at, prices_in}
use Rattle.payment_states.specs.Makers.{HasMaker}
use Rattle.payment_states.specs.ByPlace.{candidate_by, flag_at, number_at, place_among}
use Rattle.payment_states.specs.Payments.{payments_of}
use Rattle.payment_states.specs.PendingView.{place_in, view_of}
use Rattle.payment_states.specs.declared.own_coins.Standing.{Standing}
use Rattle.payment_states.specs.declared.pending_facts.Facts.{Facts}
use Rattle.payment_states.specs.declared.state.Payment.{Payment}
use Rattle.payment_states.proofs.FactSteps.{any_map, opened, place_is}
use Rattle.payment_states.proofs.Below.{get_or-map_below}
use Rattle.payment_states.proofs.FitSteps.{all_kept, coins_apart, fit_coin}
use Rattle.payment_states.proofs.MakerSteps.{at_height, coin_in, found, maker_found, one_by_point}
use Rattle.payment_states.proofs.Order.{all_abandoned, found_place}
use Rattle.payment_states.proofs.Paths.{any_has}

-- ---- what is found

-- it is a coin of the book, at the outpoint
pub record IsUnder (h : History) (o : OutPoint) (c : Coin) : Type 0 where
  pub made : Made
  pub there : Contains (made_of h) made
  pub coin_is : made.coin ≡ c
  pub point : o ≡ c.coin

abbrev test : OutPoint → Made → Bool
test o m = same_outpoint o m.coin.coin

pub under : (h : History) (o : OutPoint) (c : Coin) → coin_under h o ≡ Some c → IsUnder h o c
under h o c e = by (find (test o) (made_of h)) refl e
  where
    by : (r : Option Made) → find (test o) (made_of h) ≡ r → option_map (λ (m : Made). m.coin) r ≡ Some c → IsUnder h o c
    by None is e = absurd (none-some c e)
    by (Some m) is e =
        let f = found (Contains (made_of h)) (test o) (made_of h) m (All-contains_itself (made_of h)) is in
        let same = same_Some m.coin c e in
        record { made = m; there = f.1; coin_is = same; point = (same_outpoint-Decides o m.coin.coin).0 f.0 ∙ ap (λ (k : Coin). k.coin) same }

-- a coin is found at its own outpoint
pub own_under : (w : PlainWallet) (h : History) (c : Coin) → IsWallet w → IsBookOf w h → fault_of h ≡ None → Contains (coins_of h) c → coin_under h c.coin ≡ Some c
own_under w h c rules book sound there = by (coin_under h c.coin) refl
  where
    some : is_some (coin_under h c.coin) ≡ true
    some =
        found_some (test c.coin) (λ (m : Made). m.coin) (made_of h)
        ∙ sym (any_map (λ (k : Coin). same_outpoint c.coin k.coin) (λ (m : Made). m.coin) (made_of h))
        ∙ any_has (λ (k : Coin). same_outpoint c.coin k.coin) (coins_of h) c there ((same_outpoint-Decides c.coin c.coin).1 refl)

    by : (r : Option Coin) → coin_under h c.coin ≡ r → r ≡ Some c
    by None e = absurd (true≢false (sym some ∙ ap (λ (o : Option Coin). is_some o) e))
    by (Some k) e =
        let u = under h c.coin k e in
        ap (λ (x : Coin). Some x) (one_by_point (coins_of h) k c (coins_apart w h rules book sound) (subst (Contains (coins_of h)) u.coin_is (coin_in h u.made u.there)) there (sym u.point))

pub own_facts : (w : PlainWallet) (h : History) (tip rate : ℕ) (c : Coin) → IsWallet w → IsBookOf w h → fault_of h ≡ None → Contains (coins_of h) c → facts_at w h tip rate c.coin ≡ Some (candidate_of w h tip rate c)
unfolding facts_at
own_facts w h tip rate c rules book sound there = ap (λ (r : Option Coin). option_map (candidate_of w h tip rate) r) (own_under w h c rules book sound there)

mapped_none : {X Y : Type 0} (f : X → Y) (r : Option X) → option_map f r ≡ None → r ≡ None
mapped_none f None e = refl
mapped_none f (Some x) e = absurd (none-some (f x) (sym e))

pub none_facts : (w : PlainWallet) (h : History) (tip rate : ℕ) (o : OutPoint) → (facts_at w h tip rate o ≡ None) ↔ All (λ (c : Coin). c.coin ≢ o) (coins_of h)
unfolding facts_at
none_facts w h tip rate o = (there, back)
  where
    some_is : is_some (coin_under h o) ≡ list_any (λ (c : Coin). same_outpoint o c.coin) (coins_of h)
    some_is = found_some (test o) (λ (m : Made). m.coin) (made_of h) ∙ sym (any_map (λ (k : Coin). same_outpoint o k.coin) (λ (m : Made). m.coin) (made_of h))

    there : option_map (candidate_of w h tip rate) (coin_under h o) ≡ None → All (λ (c : Coin). c.coin ≢ o) (coins_of h)
    there e = All-weaker (Contains (coins_of h)) (λ (c : Coin). c.coin ≢ o)
        (λ c in' same. true≢false (sym (some_is ∙ any_has (λ (c : Coin). same_outpoint o c.coin) (coins_of h) c in' ((same_outpoint-Decides o c.coin).1 (sym same))) ∙ ap (λ (r : Option Coin). is_some r) (mapped_none (candidate_of w h tip rate) (coin_under h o) e)))
        (coins_of h) (All-contains_itself (coins_of h))

    nothing : (r : Option Coin) → is_some r ≡ false → option_map (candidate_of w h tip rate) r ≡ None
    nothing None e = refl
    nothing (Some c) e = absurd (true≢false e)

    back : All (λ (c : Coin). c.coin ≢ o) (coins_of h) → option_map (candidate_of w h tip rate) (coin_under h o) ≡ None
    back all = nothing (coin_under h o) (some_is ∙ list_any_none (λ (c : Coin). same_outpoint o c.coin) (coins_of h)
        (All-weaker (λ (c : Coin). c.coin ≢ o) (λ (c : Coin). same_outpoint o c.coin ≡ false) (λ c ne. false_from_ne_true (same_outpoint o c.coin) (λ e. ne (sym ((same_outpoint-Decides o c.coin).0 e)))) (coins_of h) all))

-- of coins that may be spent the same is known
pub same_facts : (w : PlainWallet) (h : History) (tip rate : ℕ) → IsWallet w → IsBookOf w h → fault_of h ≡ None → All (λ (c : Candidate). facts_at w h tip rate c.coin ≡ Some c) (candidates_of w h tip rate)
unfolding candidates_of
same_facts w h tip rate rules book sound =
    All-map (λ (c : Candidate). facts_at w h tip rate c.coin ≡ Some c) (candidate_of w h tip rate) (filter (is_candidate w h tip) (coins_of h))
    (all_kept (λ (k : Coin). facts_at w h tip rate (candidate_of w h tip rate k).coin ≡ Some (candidate_of w h tip rate k)) (is_candidate w h tip) (coins_of h)
    (All-weaker (Contains (coins_of h)) (λ (k : Coin). facts_at w h tip rate (candidate_of w h tip rate k).coin ≡ Some (candidate_of w h tip rate k))
    (λ k there. ap (facts_at w h tip rate) (at_height w h tip rate k k.height (place_in w.pending k.coin.txid)).point ∙ own_facts w h tip rate k rules book sound there)
    (coins_of h) (All-contains_itself (coins_of h))))

-- ---- what comes is fit, and has a transaction

pub facts_fit : (w : PlainWallet) (h : History) (tip rate : ℕ) (o : OutPoint) (c : Candidate) → IsWallet w → IsBookOf w h → fault_of h ≡ None → facts_at w h tip rate o ≡ Some c → IsCandidate c × HasMaker h c
unfolding facts_at
facts_fit w h tip rate o c rules book sound e = by (coin_under h o) refl e
  where
    by : (r : Option Coin) → coin_under h o ≡ r → option_map (candidate_of w h tip rate) r ≡ Some c → IsCandidate c × HasMaker h c
    by None is e = absurd (none-some c e)
    by (Some k) is e =
        let u = under h o k is in
        let same = same_Some (candidate_of w h tip rate k) c e in
        subst (λ (x : Candidate). IsCandidate x × HasMaker h x) same
        (subst (λ (x : Coin). IsCandidate (candidate_of w h tip rate x) × HasMaker h (candidate_of w h tip rate x)) u.coin_is (
          fit_coin w h rules book sound tip rate u.made u.there,
          maker_found w h rules book sound u.made (candidate_of w h tip rate u.made.coin) u.there (at_height w h tip rate u.made.coin u.made.coin.height (place_in w.pending u.made.coin.coin.txid)),
        ))

pub all_facts_fit : (w : PlainWallet) (h : History) (tip rate : ℕ) (points : List OutPoint) → IsWallet w → IsBookOf w h → fault_of h ≡ None → All (λ (c : Candidate). IsCandidate c × HasMaker h c) (facts_among w h tip rate points)
all_facts_fit w h tip rate points rules book sound = all_abandoned (λ (c : Candidate). IsCandidate c × HasMaker h c) (facts_at w h tip rate) points (λ o there c e. facts_fit w h tip rate o c rules book sound e)

-- ---- how a coin stands

pub known_waiting : (w : PlainWallet) (h : History) (tip rate : ℕ) (c : Coin) → c.height ≡ None → candidate_by h c (waiting_at w h rate (place_in w.pending c.coin.txid)) ≡ candidate_of w h tip rate c
known_waiting w h tip rate c e = by c.height e
  where
    by : (r : Option ℕ) → r ≡ None → candidate_by h c (waiting_at w h rate (place_in w.pending c.coin.txid)) ≡ candidate_at w h tip rate c r (place_in w.pending c.coin.txid)
    by None e = refl
    by (Some n) e = absurd (none-some n (sym e))

pub known_deep : (w : PlainWallet) (h : History) (tip rate height : ℕ) (c : Coin) → c.height ≡ Some height → candidate_by h c (record { depth = tip + 1 - height; safe = true; ancestors = 0; descendants = 0; price = 0 }) ≡ candidate_of w h tip rate c
known_deep w h tip rate height c e = sym (ap (λ (r : Option ℕ). candidate_at w h tip rate c r (place_in w.pending c.coin.txid)) e)

-- ---- where its transaction waits

pub place_known : (w : PlainWallet) (h : History) (ps : List Payment) (txid : List ℕ) → ps ≡ payments_of w h → place_among ps txid ≡ place_in w.pending txid
place_known w h ps txid e = ap (λ (l : List Payment). place_among l txid) (opened w h ps e) ∙ place_is (view_of w h) txid

pub place_within : (ts : List Transaction) (txid : List ℕ) (r : Option ℕ) → r ≡ place_in ts txid → IfSome r (λ i. i < length ts)
place_within ts txid None e = tt
place_within ts txid (Some i) e = (found_place ts txid i (sym e)).0

abbrev pub stood : Bool → ℕ → ℕ → ℕ → Standing
stood safe ancestors descendants price = record { depth = 0; safe = safe; ancestors = ancestors; descendants = descendants; price = price }

pub waiting_is : (w : PlainWallet) (h : History) (rate : ℕ) (f : Facts) (prices : List ℕ) (place : Option ℕ) (n : ℕ) → AreFacts w h f → prices ≡ prices_in w h rate → IfSome place (λ i. i < length w.pending) → n ≡ option_map_or (ancestors (view_of w h)) place 0
    → stood (flag_at f.safe.items place) n (number_at f.descendants.items place) (number_at prices place) ≡ waiting_at w h rate place
waiting_is w h rate f prices None n k told within e = ap (λ m. stood false m 0 0) e
waiting_is w h rate f prices (Some i) n k told within e =
    let priced : slice_index_or prices i 0 ≡ price_at w h rate i = ap (λ (l : List ℕ). slice_index_or l i 0) told ∙ get_or-map_below (price_at w h rate) (length w.pending) i 0 within in
    let safely : slice_index_or f.safe.items i false ≡ is_safe (view_of w h) (coins_of h) i =
    ap (λ (l : List Bool). slice_index_or l i false) k.safe ∙ get_or-map_below (is_safe (view_of w h) (coins_of h)) (length w.pending) i false within in
    λ j. stood (safely j) (e j) (k.descendants i j) (priced j)

-- ---- out of memory

pub on_err : {T E P : Type 0} (r : Result T E) → P → OnErr r P
on_err (Ok x) p = tt
on_err (Err e) p = p
