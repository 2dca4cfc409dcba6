-- What prices are, and what they cover.
use Rattle.std.proofs.Common.{◌≡◌, ◌≢◌, ◌∙◌, ℕ, suc, ◌+◌, ◌<◌, ◌≤◌, ◌==◌, Bool, true, false, cond, List, [], ◌∷◌, length, filter, min, Option, Some, None, All, Contains, refl, sym, ap, subst, arith}
use Rattle.std.specs.Prelude.{sum_by, ◌↔◌}
use Rattle.std.specs.List.{AllPairs, Any, list_any}
use Rattle.std.proofs.lemmas.Bool.{eq-eqb, eqb-true}
use Rattle.std.proofs.lemmas.List.Elements.{All-contains}
use Rattle.std.proofs.lemmas.List.Sums.{get_or-le-sum_by, sum_by-cons}
use Rattle.fund_base.proofs.Lists.{any_found}
use Rattle.fee_rates.proofs.FeeLaws.{each_parts, fee_least}
use Rattle.fee_rates.specs.Fee.{fee_of}
use Rattle.wallet_text.specs.PlainWallet.{PlainWallet}
use Rattle.wallet_text.specs.WalletRules.{AreDistinct, ParentsComeFirst}
use Rattle.coin_book.specs.History.{History}
use Rattle.coin_book.specs.declared.coin.Coin.{Coin}
use Rattle.known_fees.proofs.MissingLaws.{least, raises, rises}
use Rattle.known_fees.specs.Missing.{is_known, size_of}
use Rattle.known_fees.specs.Worth.{paid_by}
use Rattle.payment_states.specs.Candidates.{candidate_at, candidate_of, is_pending, price_at, share_at}
use Rattle.payment_states.specs.Causes.{HasCause, IsKin}
use Rattle.payment_states.specs.Graph.{below, within}
use Rattle.payment_states.specs.PendingView.{PendingView, graph, kin_of, place_in, tx_at, view_of}
use Rattle.payment_states.specs.declared.state.State.TheVariants as state
use Rattle.payment_states.proofs.FactSteps.{graph_count}
use Rattle.payment_states.proofs.KinSteps.{below_has, below_rises, filter_has, kin_has, kin_stands, tests}
use Rattle.payment_states.proofs.NumberSteps.{passing, pending_kin, waits_back}
use Rattle.payment_states.proofs.Paths.{any_has}
use Rattle.payment_states.proofs.PriceSteps.{sum_agree, sum_both, sum_filter, sum_rises}

-- ---- sums

-- one of a sum
one_within : {X : Type 0} (f : X → ℕ) (xs : List X) (x : X) → Contains xs x → f x ≤ sum_by f xs
one_within f xs x c = subst (λ y. f y ≤ sum_by f xs) c.2 (get_or-le-sum_by f xs c.0 x c.1)

sum_le : {X : Type 0} (f h : X → ℕ) (xs : List X) → ((x : X) → Contains xs x → f x ≤ h x) → sum_by f xs ≤ sum_by h xs
sum_le f h [] le = omega arith
sum_le f h (x ∷ xs) le = omega (arith, sum_le f h xs (λ y c. le y (suc c.0, omega arith, c.2)), le x (0, omega arith, refl), sum_by-cons f x xs, sum_by-cons h x xs)

sum_zero : {X : Type 0} (f : X → ℕ) (xs : List X) → ((x : X) → f x ≡ 0) → sum_by f xs ≡ 0
sum_zero f [] none = refl
sum_zero f (x ∷ xs) none = omega (arith, sum_zero f xs none, none x, sum_by-cons f x xs)

-- two sums, the one within the other
sum_swap : {X Y : Type 0} (f : X → Y → ℕ) (xs : List X) (ys : List Y) → sum_by (λ y. sum_by (λ x. f x y) xs) ys ≡ sum_by (λ x. sum_by (f x) ys) xs
sum_swap {Y = Y} f [] ys = sum_zero (λ (y : Y). 0) ys (λ y. refl)
sum_swap {Y = Y} f (x ∷ xs) ys =
    sum_agree (λ (y : Y). sum_by (λ z. f z y) (x ∷ xs)) (λ (y : Y). f x y + sum_by (λ z. f z y) xs) ys (λ y c. sum_by-cons (λ z. f z y) x xs)
    ∙ sum_both (f x) (λ (y : Y). sum_by (λ z. f z y) xs) ys
    ∙ ap (λ n. sum_by (f x) ys + n) (sum_swap f xs ys)
    ∙ sym (sum_by-cons (λ z. sum_by (f z) ys) x xs)

-- ---- what a price is

under_cap : (n : ℕ) → min 2_100_000_000_000_000 n < 2_100_000_000_000_000 → min 2_100_000_000_000_000 n ≡ n
under_cap n h = omega arith

pub price_rises : (w : PlainWallet) (h : History) (rate higher i : ℕ) → rate ≤ higher → price_at w h rate i ≤ price_at w h higher i
unfolding price_at
price_rises w h rate higher i le =
    let more = sum_rises (share_at w h rate) (share_at w h higher) (filter (is_pending (view_of w h)) (kin_of (view_of w h) i)) (λ j. rises rate higher h w.pending (tx_at (view_of w h) j) le) in
    omega (arith, more)

nothing_due : (size : ℕ) → fee_of 0 size ≤ 0
nothing_due size = (fee_least 0 size).least 0 (omega arith)

pub nothing_free : (w : PlainWallet) (h : History) (i : ℕ) → price_at w h 0 i ≡ 0
unfolding price_at
nothing_free w h i =
    let free = λ (j : ℕ). let t = tx_at (view_of w h) j in let none = nothing_due (size_of t) in let le = least 0 h w.pending t 0 (omega (arith, none)) in let e : share_at w h 0 j ≡ 0 = omega (arith, le) in e in
    let sum = sum_zero (share_at w h 0) (filter (is_pending (view_of w h)) (kin_of (view_of w h) i)) free in
    omega (arith, sum)

pub confirmed_free : (w : PlainWallet) (h : History) (tip rate : ℕ) (c : Coin) → c.height ≢ None → (candidate_of w h tip rate c).price ≡ 0
confirmed_free w h tip rate c high = by c.height (place_in w.pending c.coin.txid) high
  where
    by : (height place : Option ℕ) → height ≢ None → (candidate_at w h tip rate c height place).price ≡ 0
    by None place high = absurd (high refl)
    by (Some n) place high = refl

module _ (w : PlainWallet) (h : History) (rate : ℕ) (apart : AreDistinct w.pending) (rule : ParentsComeFirst w.pending) where
  abbrev view : PendingView
  view = view_of w h

  abbrev share : ℕ → ℕ
  share j = share_at w h rate j

  pub price_sum : (i : ℕ) (places : List ℕ) → i < length w.pending → AllPairs (λ (a b : ℕ). a < b) places → ((j : ℕ) → Contains places j ↔ (IsKin view i j × HasCause view j state.Pending)) → price_at w h rate i ≡ min 2_100_000_000_000_000 (sum_by (share_at w h rate) places)
  unfolding price_at
  price_sum i places lt rises is = ap (λ (l : List ℕ). min 2_100_000_000_000_000 (sum_by share l)) (pending_kin view apart rule i places lt rises is)

  -- what is within a price that isn't the greatest
  whole : (i : ℕ) → price_at w h rate i < 2_100_000_000_000_000 → price_at w h rate i ≡ sum_by share (filter (is_pending view) (kin_of view i))
  unfolding price_at
  whole i small = under_cap (sum_by share (filter (is_pending view) (kin_of view i))) small

  among : (i j : ℕ) → i < length w.pending → IsKin view i j → HasCause view j state.Pending → Contains (filter (is_pending view) (kin_of view i)) j
  among i j lt way waiting = filter_has (is_pending view) (kin_of view i) j (kin_has view apart rule i j lt way) (waits_back view apart rule j (kin_stands view apart rule way lt) waiting)

  pub price_raises : (i j : ℕ) → i < length w.pending → IsKin view i j → HasCause view j state.Pending → is_known h w.pending (tx_at view j) ≡ true → price_at w h rate i < 2_100_000_000_000_000
      → fee_of rate (size_of (tx_at view j)) ≤ paid_by h w.pending (tx_at view j) + price_at w h rate i
  price_raises i j lt way waiting known small =
      let one = one_within share (filter (is_pending view) (kin_of view i)) j (among i j lt way waiting) in
      let up = raises rate h w.pending (tx_at view j) known in
      let all = whole i small in
      omega (arith, one, up, all)

  -- ---- what prices cover

  abbrev stands : ℕ
  stands = length w.pending

  -- what the one at place j has in the price of the one at place i
  abbrev held : ℕ → ℕ → ℕ
  held i j = cond (within (graph view) (length (graph view)) i j) (cond (is_pending view j) (share j) 0) 0

  price_held : (i : ℕ) → price_at w h rate i < 2_100_000_000_000_000 → sum_by (held i) (below stands) ≡ price_at w h rate i
  price_held i small =
      ap (λ n. sum_by (held i) (below n)) (sym (graph_count view))
      ∙ sym (sum_filter (λ j. cond (is_pending view j) (share j) 0) (within (graph view) (length (graph view)) i) (below (length (graph view))))
      ∙ sym (sum_filter share (is_pending view) (kin_of view i))
      ∙ sym (whole i small)

  abbrev listed : List ℕ → ℕ → Bool
  listed raised j = list_any (λ q. q == j) raised

  is_listed : (raised : List ℕ) (j : ℕ) → listed raised j ≡ true → Contains raised j
  is_listed raised j e = let f = any_found (λ q. q == j) raised e in subst (Contains raised) (eqb-true f.0 j f.2) f.1

  abbrev Covered : List ℕ → ℕ → Type 0
  Covered payments j = Any (λ i. IsKin view i j) payments × HasCause view j state.Pending

  held_by : (payments : List ℕ) (j : ℕ) → All (λ i. i < length w.pending) payments → Covered payments j → share j ≤ sum_by (λ i. held i j) payments
  held_by payments j within_list c =
      let i = c.0.1 in
      let at : Contains payments i = (c.0.0, c.0.2, c.0.3) in
      let lt = All-contains (λ k. k < length w.pending) payments i within_list at in
      let reached = tests view apart rule i j lt c.0.4 in
      let waiting = waits_back view apart rule j (kin_stands view apart rule c.0.4 lt) c.1 in
      let whole_share : held i j ≡ share j = (λ k. cond (reached k) (cond (waiting k) (share j) 0) 0) in
      let one = one_within (λ i. held i j) payments i at in
      omega (arith, one, whole_share)

  pub prices_cover : (payments raised : List ℕ) → All (λ i. i < length w.pending) payments → All (λ i. price_at w h rate i < 2_100_000_000_000_000) payments
      → AllPairs (λ (a b : ℕ). a < b) raised → All (Covered payments) raised → sum_by (share_at w h rate) raised ≤ sum_by (price_at w h rate) payments
  prices_cover payments raised within_list small rises covered =
      let some = λ (j : ℕ) (c : Contains raised j). All-contains (Covered payments) raised j covered c in
      let stands_there = λ (j : ℕ) (c : Contains raised j). let k = some j c in kin_stands view apart rule k.0.4 (All-contains (λ i. i < length w.pending) payments k.0.1 within_list (k.0.0, k.0.2, k.0.3)) in
      let same : filter (listed raised) (below stands) ≡ raised =
      passing (listed raised) (below stands) raised (below_rises stands) rises (λ j. (
        (λ c. (below_has stands j (stands_there j c), any_has (λ q. q == j) raised j c (eq-eqb j j refl))),
        (λ p. is_listed raised j p.1),
      )) in
      let one : sum_by share raised ≡ sum_by (λ j. cond (listed raised j) (share j) 0) (below stands) = ap (sum_by share) (sym same) ∙ sum_filter share (listed raised) (below stands) in
      let two = sum_le (λ j. cond (listed raised j) (share j) 0) (λ j. sum_by (λ i. held i j) payments) (below stands) (λ j c. by j (listed raised j) (λ e. held_by payments j within_list (some j (is_listed raised j e)))) in
      let three = sum_swap held payments (below stands) in
      let four = sum_agree (λ i. sum_by (held i) (below stands)) (price_at w h rate) payments (λ i c. price_held i (All-contains (λ k. price_at w h rate k < 2_100_000_000_000_000) payments i small c)) in
      omega (arith, one, two, three, four)
    where
      by : (j : ℕ) (b : Bool) → (b ≡ true → share j ≤ sum_by (λ i. held i j) payments) → cond b (share j) 0 ≤ sum_by (λ i. held i j) payments
      by j true le = le refl
      by j false le = omega arith

  -- ---- packages

  abbrev size : ℕ → ℕ
  size j = size_of (tx_at view j)

  abbrev own : ℕ → ℕ
  own j = paid_by h w.pending (tx_at view j)

  pub packages_pay : (payments raised : List ℕ) (n paid : ℕ) → All (λ i. i < length w.pending) payments → All (λ i. price_at w h rate i < 2_100_000_000_000_000) payments
      → AllPairs (λ (a b : ℕ). a < b) raised → All (Covered payments) raised → All (λ j. is_known h w.pending (tx_at view j) ≡ true) raised → fee_of rate n + sum_by (price_at w h rate) payments ≤ paid
      → fee_of rate (n + sum_by (λ j. size_of (tx_at view j)) raised) ≤ paid + sum_by (λ j. paid_by h w.pending (tx_at view j)) raised
  packages_pay payments raised n paid within_list small rises covered known enough =
      let parts = each_parts size rate n raised in
      let each = sum_le (λ j. fee_of rate (size j)) (λ j. own j + share j) raised (λ j c. raises rate h w.pending (tx_at view j) (All-contains (λ k. is_known h w.pending (tx_at view k) ≡ true) raised j known c)) in
      let two = sum_both own share raised in
      let cover = prices_cover payments raised within_list small rises covered in
      omega (arith, parts, each, two, cover, enough)
