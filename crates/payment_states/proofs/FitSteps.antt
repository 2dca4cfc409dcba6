-- What comes of a book's coins is fit for a payment.
use Rattle.std.proofs.Common.{◌≡◌, ◌≢◌, ◌∙◌, ℕ, zero, suc, ◌<◌, ◌≤◌, ◌||◌, Bool, true, false, cond, List, [], ◌∷◌, ◌++◌, length, map, filter, get_or, Option, Some, None, refl, sym, ap, subst, arith, Contains, All, AllPairs}
use Rattle.std.specs.Prelude.{⊤, bytes_eq, find, is_none, is_some, nat_le, nat_lt, option_and_then, option_map, slice_get}
use Rattle.std.specs.List.{flat_map, list_any}
use Rattle.std.specs.Option.{option_or, option_to_list}
use Rattle.std.proofs.lemmas.Bool.{ltb-false, or_parts, true≢false}
use Rattle.std.proofs.lemmas.List.{length-map, map-append}
use Rattle.std.proofs.lemmas.List.Elements.{All-append, All-cons, All-contains, All-head, All-map, All-nil, All-tail, All-weaker, filter_passes}
use Rattle.std.proofs.lemmas.List.Folds.{list_any-append}
use Rattle.std.proofs.lemmas.List.Kept.{AllPairs-cons, AllPairs-filter}
use Rattle.std.proofs.lemmas.List.Sums.{get_or-le-sum_by}
use Rattle.std.proofs.lemmas.Option.{get_or_from_slice_get, none-some, same_Some, slice_get_within}
use Rattle.std.proofs.lemmas.Slice.Eq.{bytes_eq-Decides}
use Rattle.fund_base.proofs.OutpointLaws.{same_outpoint-Decides}
use Rattle.coin_candidates.specs.Candidates.{AreCandidates, IsCandidate}
use Rattle.fund_base.specs.Outpoints.{same_outpoint}
use Rattle.coin_candidates.specs.declared.candidate.Candidate.{Candidate}
use Rattle.fund_base.specs.declared.outpoint.OutPoint.{OutPoint}
use Rattle.tx_codec.specs.declared.tx.TxOut.{TxOut}
use Rattle.tx_codec.specs.Transaction.{Transaction}
use Rattle.tx_codec.specs.TransactionText.{IsTransaction}
use Rattle.tx_codec.specs.Txid.{txid_of}
use Rattle.block_feed.specs.Block.{ChainBlock}
use Rattle.wallet_text.specs.PlainWallet.{Earlier, PlainWallet}
use Rattle.wallet_text.specs.WalletRules.{AreDistinct, IsEarlier, IsWallet, IsWatch}
use Rattle.wallet_text.specs.declared.wallet.Watch.{Watch}
use Rattle.coin_book.specs.Coinbase.{is_coinbase_of}
use Rattle.coin_book.specs.Coins.{Made, coin_at, coin_of, coins_below, coins_of, confirmed_made, is_open, made_by, made_in, made_of, pending_made, weight_for}
use Rattle.coin_book.specs.Faults.{fault_behind, fault_of, full_at, points}
use Rattle.coin_book.specs.History.{Confirmed, History, confirmed_at, confirmed_before, confirmed_in}
use Rattle.coin_book.specs.Spends.{height_of}
use Rattle.coin_book.specs.declared.coin.Coin.{Coin}
use Rattle.coin_book.specs.declared.fault.BookFault.{BookFault}
use Rattle.coin_book.specs.declared.fault.BookFault.TheVariants.{Full, RepeatCoin}
use Rattle.payment_states.specs.BookOf.{IsBookOf}
use Rattle.payment_states.specs.Candidates.{candidate_at, candidate_of, candidates_of, is_candidate, price_at}
use Rattle.payment_states.specs.PendingView.{place_in}
use Rattle.std.proofs.lemmas.Simd.{map-map}
use Rattle.fund_base.proofs.Lists.{filter_le}
use Rattle.payment_states.proofs.Below.{get_or_map}
use Rattle.payment_states.proofs.Paths.{any_has}

-- ---- lists

pub all_flat : {X Y : Type 0} (P : Y → Type 0) (f : X → List Y) (xs : List X) → ((x : X) → Contains xs x → All P (f x)) → All P (flat_map f xs)
all_flat P f [] h = All-nil P
all_flat P f (x ∷ xs) h = All-append P (f x) (flat_map f xs) (h x (0, omega arith, refl)) (all_flat P f xs (λ y c. h y (suc c.0, omega arith, c.2)))

pub all_kept : {X : Type 0} (P : X → Type 0) (p : X → Bool) (xs : List X) → All P xs → All P (filter p xs)
all_kept P p [] h = h
all_kept {X = X} P p (x ∷ xs) h = by (p x) (all_kept P p xs (All-tail P x xs h))
  where
    by : (b : Bool) → All P (filter p xs) → All P (cond b (x ∷ filter p xs) (filter p xs))
    by true rest = All-cons P x (filter p xs) (All-head P x xs h) rest
    by false rest = rest

find_holds : {X : Type 0} (P : X → Type 0) (p : X → Bool) (xs : List X) (x : X) → All P xs → find p xs ≡ Some x → P x
find_holds P p [] x h e = absurd (none-some x e)
find_holds {X = X} P p (y ∷ xs) x h e = by (p y) e (λ e. find_holds P p xs x (All-tail P y xs h) e)
  where
    by : (b : Bool) → cond b (Some y) (find p xs) ≡ Some x → (find p xs ≡ Some x → P x) → P x
    by true e rest = subst P (same_Some y x e) (All-head P y xs h)
    by false e rest = rest e

pub some_find : {X : Type 0} (p : X → Bool) (xs : List X) → is_some (find p xs) ≡ list_any p xs
some_find p [] = refl
some_find {X = X} p (x ∷ xs) = by (p x) (some_find p xs)
  where
    by : (b : Bool) → is_some (find p xs) ≡ list_any p xs → is_some (cond b (Some x) (find p xs)) ≡ (b || list_any p xs)
    by true e = refl
    by false e = e

-- no two are the same
abbrev Apart : List OutPoint → Type 0
Apart [] = ⊤
Apart (x ∷ xs) = All (λ y. x ≢ y) xs × Apart xs

apart_pairs : (xs : List OutPoint) → Apart xs → AllPairs (λ x y. x ≢ y) xs
apart_pairs [] h = λ i j d lt in'. absurd (omega arith)
apart_pairs (x ∷ xs) h = AllPairs-cons (λ x y. x ≢ y) x xs h.0 (apart_pairs xs h.1)

apart_append : (xs ys : List OutPoint) → Apart xs → Apart ys → All (λ x. All (λ y. x ≢ y) ys) xs → Apart (xs ++ ys)
apart_append [] ys a b c = b
apart_append (x ∷ xs) ys a b c =
    (All-append (λ y. x ≢ y) xs ys a.0 (All-head (λ x. All (λ y. x ≢ y) ys) x xs c), apart_append xs ys a.1 b (All-tail (λ x. All (λ y. x ≢ y) ys) x xs c))

-- ---- where a coin comes from

record IsFrom (weigh : List ℕ → Option ℕ) (t : Transaction) (i : ℕ) (m : Made) : Type 0 where
  out : TxOut
  at : slice_get t.outputs i ≡ Some out
  value : m.coin.value ≡ out.value
  weight : weigh out.script ≡ Some m.coin.weight
  txid : m.coin.coin.txid ≡ txid_of t
  index : m.coin.coin.index ≡ i

from_at : (weigh : List ℕ → Option ℕ) (height : Option ℕ) (t : Transaction) (i : ℕ) (m : Made) → coin_at weigh height t i ≡ Some m → IsFrom weigh t i m
unfolding coin_at coin_of
from_at weigh height t i m e = by (nat_le i 4294967295) (slice_get t.outputs i) refl e
  where
    made : TxOut → ℕ → Made
    made out weight = record {
      coin = record { coin = record { txid = txid_of t; index = i }; value = out.value; script = out.script; weight = weight; height = height; coinbase = is_coinbase_of t };
      maker = t;
    }

    weighed : (out : TxOut) → slice_get t.outputs i ≡ Some out → (r : Option ℕ) → weigh out.script ≡ r → option_map (made out) r ≡ Some m → IsFrom weigh t i m
    weighed out at None is e = absurd (none-some m e)
    weighed out at (Some x) is e =
        let s = same_Some (made out x) m e in
        record {
          out = out;
          at = at;
          value = ap (λ (m : Made). m.coin.value) (sym s);
          weight = is ∙ ap (λ (m : Made). Some m.coin.weight) s;
          txid = ap (λ (m : Made). m.coin.coin.txid) (sym s);
          index = ap (λ (m : Made). m.coin.coin.index) (sym s);
        }

    by : (b : Bool) (r : Option TxOut) → slice_get t.outputs i ≡ r → cond b (option_and_then (coin_of weigh height t i) r) None ≡ Some m → IsFrom weigh t i m
    by true None at e = absurd (none-some m e)
    by true (Some out) at e = weighed out at (weigh out.script) refl e
    by false r at e = absurd (none-some m e)

all_option : {X : Type 0} (P : X → Type 0) (o : Option X) → ((x : X) → o ≡ Some x → P x) → All P (option_to_list o)
all_option P None h = All-nil P
all_option P (Some x) h = All-cons P x [] (h x refl) (All-nil P)

all_below : (P : Made → Type 0) (coin : ℕ → Option Made) (n : ℕ) → ((i : ℕ) (m : Made) → i < n → coin i ≡ Some m → P m) → All P (coins_below coin n)
unfolding coins_below
all_below P coin zero h = All-nil P
all_below P coin (suc n) h = All-append P (coins_below coin n) (option_to_list (coin n)) (all_below P coin n (λ i m lt. h i m (omega arith))) (all_option P (coin n) (λ m e. h n m (omega arith) e))

-- what holds of all coins of a transaction
all_made : (P : Made → Type 0) (weigh : List ℕ → Option ℕ) (height : Option ℕ) (t : Transaction) → ((i : ℕ) (m : Made) → IsFrom weigh t i m → P m) → All P (made_in weigh height t)
unfolding made_in
all_made P weigh height t h = all_below P (coin_at weigh height t) (length t.outputs) (λ i m lt e. h i m (from_at weigh height t i m e))

-- ---- values and weights

abbrev IsGood : Made → Type 0
IsGood m = (m.coin.value ≤ 2_100_000_000_000_000) × (165 ≤ m.coin.weight) × (m.coin.weight ≤ 400_000)

good_from : (scripts : List Watch) (t : Transaction) (i : ℕ) (m : Made) → All IsWatch scripts → IsTransaction t → IsFrom (weight_for scripts) t i m → IsGood m
good_from scripts t i m watched text f =
    let in_list = slice_get_within t.outputs i f.out f.at in
    let le = get_or-le-sum_by (λ (o : TxOut). o.value) t.outputs i f.out in_list in
    let is : (get_or t.outputs i f.out).value ≡ f.out.value = ap (λ (o : TxOut). o.value) (get_or_from_slice_get t.outputs i f.out f.out f.at) in
    let v = f.value in
    let most = text.money in
    let weighed = weight_is (find (λ (s : Watch). bytes_eq f.out.script s.script) scripts) refl f.weight in
    (omega arith, weighed.0, weighed.1)
  where
    weight_is : (r : Option Watch) → find (λ (s : Watch). bytes_eq f.out.script s.script) scripts ≡ r → option_map (λ (s : Watch). s.weight) r ≡ Some m.coin.weight → (165 ≤ m.coin.weight) × (m.coin.weight ≤ 400_000)
    weight_is None e h = absurd (none-some m.coin.weight h)
    weight_is (Some s) e h =
        let k = find_holds IsWatch (λ (s : Watch). bytes_eq f.out.script s.script) scripts s watched e in
        let same = same_Some s.weight m.coin.weight h in
        let low = k.least_weight in
        let high = k.most_weight in
        (omega arith, omega arith)

module _ (w : PlainWallet) (h : History) (rules : IsWallet w) (book : IsBookOf w h) (sound : fault_of h ≡ None) where
  texts : All (λ (c : Confirmed). IsTransaction c.tx) h.confirmed
  texts = subst (λ (cs : List Confirmed). All (λ (c : Confirmed). IsTransaction c.tx) cs) (sym book.confirmed)
      (All-append (λ (c : Confirmed). IsTransaction c.tx) (map confirmed_before w.earlier) (flat_map confirmed_in book.blocks)
      (All-map (λ (c : Confirmed). IsTransaction c.tx) confirmed_before w.earlier (All-weaker (IsEarlier w.height) (λ (e : Earlier). IsTransaction e.tx) (λ e k. k.tx) w.earlier rules.earlier))
      (all_flat (λ (c : Confirmed). IsTransaction c.tx) confirmed_in book.blocks (λ b c. All-map (λ (c : Confirmed). IsTransaction c.tx) (confirmed_at b.height) b.txs (All-contains (λ (b : ChainBlock). All IsTransaction b.txs) book.blocks b book.texts c))))

  scripts : All IsWatch h.scripts
  scripts = subst (λ (ws : List Watch). All IsWatch ws) (sym book.scripts) rules.scripts

  pending : All IsTransaction h.pending
  pending = subst (λ (ts : List Transaction). All IsTransaction ts) (sym book.pending) rules.pending

  good : All IsGood (made_of h)
  unfolding made_of
  good = All-append IsGood (confirmed_made h) (pending_made h)
      (all_flat IsGood (made_by (weight_for h.scripts)) h.confirmed (λ c in'. all_made IsGood (weight_for h.scripts) (Some c.height) c.tx (λ i m f. good_from h.scripts c.tx i m scripts (All-contains (λ (c : Confirmed). IsTransaction c.tx) h.confirmed c texts in') f)))
      (all_flat IsGood (made_in (weight_for h.scripts) None) (filter (is_open h.confirmed) h.pending) (λ t in'. all_made IsGood (weight_for h.scripts) None t
      (λ i m f. good_from h.scripts t i m scripts (All-contains IsTransaction (filter (is_open h.confirmed) h.pending) t (all_kept IsTransaction (is_open h.confirmed) h.pending pending) in') f)))

-- ---- how many

pub few : (h : History) → fault_of h ≡ None → length (made_of h) ≤ 100_000
few h e = by (fault_behind [] (points (confirmed_made h))) (nat_lt 100_000 (length (made_of h))) refl e
  where
    by : (r : Option BookFault) (b : Bool) → nat_lt 100_000 (length (made_of h)) ≡ b → option_or r (cond b (Some Full) None) ≡ None → length (made_of h) ≤ 100_000
    by (Some f) b is e = absurd (none-some f (sym e))
    by None true is e = absurd (none-some Full (sym e))
    by None false is e = ltb-false 100_000 (length (made_of h)) is

-- ---- each output once

-- confirmed coins that have no fault
confirmed_apart : (before xs : List OutPoint) → fault_behind before xs ≡ None → Apart xs × All (λ x. list_any (same_outpoint x) before ≡ false) xs
unfolding fault_behind
confirmed_apart before [] e = (tt, All-nil (λ x. list_any (same_outpoint x) before ≡ false))
confirmed_apart before (o ∷ rest) e = by (list_any (same_outpoint o) before) (nat_lt (length before) 100_000) refl e (λ e. confirmed_apart (before ++ o ∷ []) rest e)
  where
    other : (x : OutPoint) → list_any (same_outpoint x) (before ++ o ∷ []) ≡ false → (list_any (same_outpoint x) before ≡ false) × (o ≢ x)
    other x f =
        let p = or_parts (list_any (same_outpoint x) before) (list_any (same_outpoint x) (o ∷ [])) (sym (list_any-append (same_outpoint x) before (o ∷ [])) ∙ f) in
        let q = or_parts (same_outpoint x o) false p.1 in
        (p.0, λ same. true≢false (sym ((same_outpoint-Decides x o).1 (sym same)) ∙ q.0))

    by : (b c : Bool) → list_any (same_outpoint o) before ≡ b → cond b (Some (RepeatCoin o)) (cond c (fault_behind (before ++ o ∷ []) rest) (Some Full)) ≡ None
        → (fault_behind (before ++ o ∷ []) rest ≡ None → Apart rest × All (λ x. list_any (same_outpoint x) (before ++ o ∷ []) ≡ false) rest) → Apart (o ∷ rest) × All (λ x. list_any (same_outpoint x) before ≡ false) (o ∷ rest)
    by true c is e r = absurd (none-some (RepeatCoin o) (sym e))
    by false false is e r = absurd (none-some Full (sym e))
    by false true is e r =
        let k = r e in (
          (All-weaker (λ x. list_any (same_outpoint x) (before ++ o ∷ []) ≡ false) (λ x. o ≢ x) (λ x f. (other x f).1) rest k.1, k.0),
          All-cons (λ x. list_any (same_outpoint x) before ≡ false) o rest is (All-weaker (λ x. list_any (same_outpoint x) (before ++ o ∷ []) ≡ false) (λ x. list_any (same_outpoint x) before ≡ false) (λ x f. (other x f).0) rest k.1),
        )

abbrev point : Made → OutPoint
point m = m.coin.coin

single : (o : Option Made) → Apart (points (option_to_list o))
single None = tt
single (Some m) = (All-nil (λ y. point m ≢ y), tt)

-- those of one transaction
below_apart : (coin : ℕ → Option Made) (n : ℕ) → ((i : ℕ) (m : Made) → coin i ≡ Some m → m.coin.coin.index ≡ i) → Apart (points (coins_below coin n))
unfolding coins_below
below_apart coin zero h = tt
below_apart coin (suc n) h =
    subst Apart (sym (map-append point (coins_below coin n) (option_to_list (coin n))))
    (apart_append (points (coins_below coin n)) (points (option_to_list (coin n))) (below_apart coin n h) (single (coin n))
    (All-map (λ x. All (λ y. x ≢ y) (points (option_to_list (coin n)))) point (coins_below coin n)
    (all_below (λ m. All (λ y. point m ≢ y) (points (option_to_list (coin n)))) coin n
    (λ i m lt e. All-map (λ y. point m ≢ y) point (option_to_list (coin n)) (all_option (λ k. point m ≢ point k) (coin n)
    (λ k f same. let a = h i m e in let b = h n k f in let s = ap (λ (o : OutPoint). o.index) same in absurd (omega arith)))))))

made_apart : (weigh : List ℕ → Option ℕ) (height : Option ℕ) (t : Transaction) → Apart (points (made_in weigh height t))
unfolding made_in
made_apart weigh height t = below_apart (coin_at weigh height t) (length t.outputs) (λ i m e. (from_at weigh height t i m e).index)

-- those of transactions of distinct txids
txs_apart : (weigh : List ℕ → Option ℕ) (height : Option ℕ) (ts : List Transaction) → AllPairs (λ s t. txid_of s ≢ txid_of t) ts → Apart (points (flat_map (made_in weigh height) ts))
txs_apart weigh height [] h = tt
txs_apart weigh height (t ∷ ts) h =
    subst Apart (sym (map-append point (made_in weigh height t) (flat_map (made_in weigh height) ts)))
    (apart_append (points (made_in weigh height t)) (points (flat_map (made_in weigh height) ts)) (made_apart weigh height t) (txs_apart weigh height ts rest)
    (All-map (λ x. All (λ y. x ≢ y) (points (flat_map (made_in weigh height) ts))) point (made_in weigh height t)
    (all_made (λ m. All (λ y. point m ≢ y) (points (flat_map (made_in weigh height) ts))) weigh height t
    (λ i m f. All-map (λ y. point m ≢ y) point (flat_map (made_in weigh height) ts)
    (all_flat (λ k. point m ≢ point k) (made_in weigh height) ts (λ s c. all_made (λ k. point m ≢ point k) weigh height s
    (λ j k g same. All-contains (λ s. txid_of t ≢ txid_of s) ts s first c (sym f.txid ∙ ap (λ (o : OutPoint). o.txid) same ∙ g.txid))))))))
  where
    rest : AllPairs (λ s t. txid_of s ≢ txid_of t) ts
    rest = λ i j d lt in'. h (suc i) (suc j) d (omega arith) (omega arith)

    first : All (λ s. txid_of t ≢ txid_of s) ts
    first = λ k d in'. h 0 (suc k) d (omega arith) (omega arith)

module _ (w : PlainWallet) (h : History) (rules : IsWallet w) (book : IsBookOf w h) (sound : fault_of h ≡ None) where
  -- a confirmed coin's transaction is confirmed
  pub confirmed_there : All (λ m. is_some (height_of h.confirmed m.coin.coin.txid) ≡ true) (confirmed_made h)
  unfolding height_of
  confirmed_there = all_flat (λ m. is_some (height_of h.confirmed m.coin.coin.txid) ≡ true) (made_by (weight_for h.scripts)) h.confirmed
      (λ c in'. all_made (λ m. is_some (height_of h.confirmed m.coin.coin.txid) ≡ true) (weight_for h.scripts) (Some c.height) c.tx (λ i m f. at c in' m.coin.coin.txid f.txid))
    where
      mapped : (r : Option Confirmed) → is_some (option_map (λ (c : Confirmed). c.height) r) ≡ is_some r
      mapped None = refl
      mapped (Some c) = refl

      at : (c : Confirmed) → Contains h.confirmed c → (txid : List ℕ) → txid ≡ txid_of c.tx → is_some (option_map (λ (c : Confirmed). c.height) (find (λ (c : Confirmed). bytes_eq (txid_of c.tx) txid) h.confirmed)) ≡ true
      at c in' txid e =
          mapped (find (λ (c : Confirmed). bytes_eq (txid_of c.tx) txid) h.confirmed)
          ∙ some_find (λ (c : Confirmed). bytes_eq (txid_of c.tx) txid) h.confirmed
          ∙ any_has (λ (c : Confirmed). bytes_eq (txid_of c.tx) txid) h.confirmed c in' ((bytes_eq-Decides (txid_of c.tx) txid).1 (sym e))

  -- a pending one's isn't
  pub pending_not : All (λ m. is_none (height_of h.confirmed m.coin.coin.txid) ≡ true) (pending_made h)
  pending_not = all_flat (λ m. is_none (height_of h.confirmed m.coin.coin.txid) ≡ true) (made_in (weight_for h.scripts) None) (filter (is_open h.confirmed) h.pending)
      (λ t in'. all_made (λ m. is_none (height_of h.confirmed m.coin.coin.txid) ≡ true) (weight_for h.scripts) None t
      (λ i m f. ap (λ txid. is_none (height_of h.confirmed txid)) f.txid ∙ All-contains (λ t. is_open h.confirmed t ≡ true) (filter (is_open h.confirmed) h.pending) t (filter_passes (is_open h.confirmed) h.pending) in'))

  both : {X : Type 0} (r : Option X) → is_some r ≡ true → is_none r ≡ true → ⊥
  both None a b = true≢false (sym a)
  both (Some x) a b = true≢false (sym b)

  no_fault : fault_behind [] (points (confirmed_made h)) ≡ None
  no_fault = by (fault_behind [] (points (confirmed_made h))) sound
    where
      by : (r : Option BookFault) → option_or r (full_at (length (made_of h))) ≡ None → r ≡ None
      by None e = refl
      by (Some f) e = e

  all_apart : Apart (points (made_of h))
  unfolding made_of
  all_apart =
      subst Apart (sym (map-append point (confirmed_made h) (pending_made h)))
      (apart_append (points (confirmed_made h)) (points (pending_made h)) (confirmed_apart [] (points (confirmed_made h)) no_fault).0
      (txs_apart (weight_for h.scripts) None (filter (is_open h.confirmed) h.pending) (AllPairs-filter (λ s t. txid_of s ≢ txid_of t) (is_open h.confirmed) h.pending (subst AreDistinct (sym book.pending) rules.pending_distinct)))
      (All-map (λ x. All (λ y. x ≢ y) (points (pending_made h))) point (confirmed_made h)
      (All-weaker (λ m. is_some (height_of h.confirmed m.coin.coin.txid) ≡ true) (λ m. All (λ y. point m ≢ y) (points (pending_made h)))
      (λ m there. All-map (λ y. point m ≢ y) point (pending_made h)
      (All-weaker (λ k. is_none (height_of h.confirmed k.coin.coin.txid) ≡ true) (λ k. point m ≢ point k)
      (λ k not_there same. both (height_of h.confirmed m.coin.coin.txid) there (ap (λ (o : OutPoint). is_none (height_of h.confirmed o.txid)) same ∙ not_there)) (pending_made h) pending_not))
      (confirmed_made h) confirmed_there)))

  no_coin : Coin
  no_coin = record { coin = record { txid = []; index = 0 }; value = 0; script = []; weight = 0; height = None; coinbase = false }

  pub coins_apart : AllPairs (λ (a b : Coin). a.coin ≢ b.coin) (coins_of h)
  coins_apart i j d lt in' =
      let p = apart_pairs (points (made_of h)) all_apart in
      let n = length-map (coins_of h) (λ (c : Coin). c.coin) in
      let is : points (made_of h) ≡ map (λ (c : Coin). c.coin) (coins_of h) = sym (map-map (λ (c : Coin). c.coin) (λ (m : Made). m.coin) (made_of h)) in
      let q = subst (λ (os : List OutPoint). AllPairs (λ x y. x ≢ y) os) is p in
      λ same. q i j d.coin lt (omega arith) (get_or_map (λ (c : Coin). c.coin) (coins_of h) i d.coin d (omega arith) ∙ same ∙ sym (get_or_map (λ (c : Coin). c.coin) (coins_of h) j d.coin d in'))

  module _ (tip rate : ℕ) where
    coin_kept : (c : Coin) (height place : Option ℕ) → ((candidate_at w h tip rate c height place).coin ≡ c.coin) × ((candidate_at w h tip rate c height place).value ≡ c.value) × ((candidate_at w h tip rate c height place).weight ≡ c.weight)
    coin_kept c None place = (refl, refl, refl)
    coin_kept c (Some height) place = (refl, refl, refl)

    kept : (c : Coin) → ((candidate_of w h tip rate c).coin ≡ c.coin) × ((candidate_of w h tip rate c).value ≡ c.value) × ((candidate_of w h tip rate c).weight ≡ c.weight)
    kept c = coin_kept c c.height (place_in w.pending c.coin.txid)

    priced : (c : Coin) (height place : Option ℕ) → (candidate_at w h tip rate c height place).price ≤ 2_100_000_000_000_000
    unfolding price_at
    priced c None None = omega arith
    priced c None (Some i) = omega arith
    priced c (Some height) place = omega arith

    is_fit : (c : Coin) → (c.value ≤ 2_100_000_000_000_000) × (165 ≤ c.weight) × (c.weight ≤ 400_000) → IsCandidate (candidate_of w h tip rate c)
    is_fit c g =
        let k = kept c in
        record { value = subst (λ v. v ≤ 2_100_000_000_000_000) (sym k.1) g.0; price = priced c c.height (place_in w.pending c.coin.txid); least_weight = subst (λ v. 165 ≤ v) (sym k.2) g.1; most_weight = subst (λ v. v ≤ 400_000) (sym k.2) g.2 }

    pub fit_coin : (m : Made) → Contains (made_of h) m → IsCandidate (candidate_of w h tip rate m.coin)
    fit_coin m there = is_fit m.coin (All-contains IsGood (made_of h) m (good w h rules book sound) there)

    -- what comes is fit, whichever coins are taken
    pub fit_by : (q : Coin → Bool) → AreCandidates (map (candidate_of w h tip rate) (filter q (coins_of h)))
    fit_by q = record {
      each = All-map IsCandidate (candidate_of w h tip rate) (filter q (coins_of h)) (all_kept (λ c. IsCandidate (candidate_of w h tip rate c)) q (coins_of h)
          (All-map (λ c. IsCandidate (candidate_of w h tip rate c)) (λ (m : Made). m.coin) (made_of h) (All-weaker IsGood (λ m. IsCandidate (candidate_of w h tip rate m.coin)) (λ m g. is_fit m.coin g) (made_of h) (good w h rules book sound))));
      count = let a = filter_le q (coins_of h) in
          let b = length-map (filter q (coins_of h)) (candidate_of w h tip rate) in
          let d = length-map (made_of h) (λ (m : Made). m.coin) in
          let e = few h sound in omega arith;
      distinct = λ i j d lt in'.
          let n = length-map (filter q (coins_of h)) (candidate_of w h tip rate) in
          let p = AllPairs-filter (λ (a b : Coin). a.coin ≢ b.coin) q (coins_of h) coins_apart in
          let at = λ (k : ℕ) (l : k < length (filter q (coins_of h))). ap (λ (c : Candidate). c.coin) (get_or_map (candidate_of w h tip rate) (filter q (coins_of h)) k d no_coin l) ∙ (kept (get_or (filter q (coins_of h)) k no_coin)).0 in
          λ same. p i j no_coin lt (omega arith) (sym (at i (omega arith)) ∙ same ∙ at j (omega arith));
    }

    pub fit : AreCandidates (candidates_of w h tip rate)
    unfolding candidates_of
    fit = fit_by (is_candidate w h tip)
