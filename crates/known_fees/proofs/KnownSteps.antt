-- What is known of an outpoint.
use Rattle.std.proofs.Common.{◌≡◌, ◌≢◌, ◌∙◌, ◌⊎◌, inl, inr, ℕ, ◌<◌, ◌||◌, Bool, true, List, [], ◌∷◌, length, map, get_or, Option, Some, None, refl, sym, ap, subst, arith, Contains, All, AllPairs}
use Rattle.std.specs.Prelude.{bytes_eq, find, is_some, option_and_then, option_map, slice_get, ◌↔◌}
use Rattle.std.specs.List.{list_any}
use Rattle.std.specs.Option.{option_or}
use Rattle.std.proofs.lemmas.Bool.{true≢false}
use Rattle.std.proofs.lemmas.List.{get_or_default}
use Rattle.std.proofs.lemmas.List.Elements.{All-weaker}
use Rattle.std.proofs.lemmas.List.Sums.{AllPass-from_list_all, list_all-from_AllPass}
use Rattle.std.proofs.lemmas.Option.{none-some, same_Some, slice_get-get_or, slice_get_within}
use Rattle.std.proofs.lemmas.Slice.Eq.{bytes_eq-Decides}
use Rattle.fund_base.specs.Outpoints.{same_outpoint}
use Rattle.fund_base.specs.declared.outpoint.OutPoint.{OutPoint}
use Rattle.fund_base.proofs.Lists.{found_some}
use Rattle.fund_base.proofs.OutpointLaws.{same_outpoint-Decides}
use Rattle.tx_codec.specs.Transaction.{Transaction}
use Rattle.tx_codec.specs.Txid.{txid_of}
use Rattle.tx_codec.specs.declared.tx.TxIn.{TxIn}
use Rattle.tx_codec.specs.declared.tx.TxOut.{TxOut}
use Rattle.coin_book.specs.AtOutpoint.{coin_under}
use Rattle.coin_book.specs.Coins.{Made, coins_of, made_of}
use Rattle.coin_book.specs.History.{History}
use Rattle.coin_book.specs.declared.coin.Coin.{Coin}
use Rattle.known_fees.specs.Missing.{is_known}
use Rattle.known_fees.specs.Worth.{IsCoinsWorth, IsKnown, IsOutputsWorth, output_among, worth_of}
use Rattle.known_fees.proofs.ListSteps.{found_in, map_has, one_of_key, some_passes}

abbrev pub AreOne : List Transaction → Type 0
AreOne ts = (s t : Transaction) → Contains ts s → Contains ts t → txid_of s ≡ txid_of t → s ≡ t

-- where no two have one txid
pub are_one : (ts : List Transaction) → AllPairs (λ (a b : Transaction). txid_of a ≢ txid_of b) ts → AreOne ts
are_one ts apart s t in_s in_t same = one_of_key txid_of ts s t apart in_s in_t same

any_mapped : {X Y : Type 0} (p : Y → Bool) (f : X → Y) (xs : List X) → list_any p (map f xs) ≡ list_any (λ x. p (f x)) xs
any_mapped p f [] = refl
any_mapped p f (x ∷ xs) = ap (λ b. p (f x) || b) (any_mapped p f xs)

-- a coin is found exactly where one is there
coin_some : (h : History) (o : OutPoint) → is_some (coin_under h o) ≡ list_any (λ (c : Coin). same_outpoint o c.coin) (coins_of h)
coin_some h o =
    found_some (λ (m : Made). same_outpoint o m.coin.coin) (λ (m : Made). m.coin) (made_of h)
    ∙ sym (any_mapped (λ (c : Coin). same_outpoint o c.coin) (λ (m : Made). m.coin) (made_of h))

some_is : {X : Type 0} (r : Option X) → is_some r ≡ true → (x : X) × (r ≡ Some x)
some_is None e = absurd (true≢false (sym e))
some_is (Some x) e = (x, refl)

some_of : {X : Type 0} (r : Option X) (x : X) → r ≡ Some x → is_some r ≡ true
some_of {X = X} r x e = ap (λ (o : Option X). is_some o) e

mapped : {X Y : Type 0} (f : X → Y) (r : Option X) → is_some (option_map f r) ≡ is_some r
mapped f None = refl
mapped f (Some x) = refl

or_first : {X : Type 0} (a b : Option X) → is_some a ≡ true → is_some (option_or a b) ≡ true
or_first None b e = absurd (true≢false (sym e))
or_first (Some x) b e = refl

or_second : {X : Type 0} (a b : Option X) → is_some b ≡ true → is_some (option_or a b) ≡ true
or_second None b e = e
or_second (Some x) b e = refl

or_either : {X : Type 0} (a b : Option X) → is_some (option_or a b) ≡ true → (is_some a ≡ true) ⊎ (is_some b ≡ true)
or_either None b e = inr e
or_either (Some x) b e = inl refl

-- it stands at the outpoint
coin_there : (h : History) (o : OutPoint) (c : Coin) → coin_under h o ≡ Some c → Contains (coins_of h) c × (c.coin ≡ o)
coin_there h o c e = by (find test (made_of h)) refl e
  where
    test : Made → Bool
    test m = same_outpoint o m.coin.coin

    by : (r : Option Made) → find test (made_of h) ≡ r → option_map (λ (m : Made). m.coin) r ≡ Some c → Contains (coins_of h) c × (c.coin ≡ o)
    by None is e = absurd (none-some c e)
    by (Some m) is e =
        let f = found_in test (made_of h) m is in
        let same = same_Some m.coin c e in
        (subst (Contains (coins_of h)) same (map_has (λ (m : Made). m.coin) (made_of h) m f.1), ap (λ (k : Coin). k.coin) (sym same) ∙ sym ((same_outpoint-Decides o m.coin.coin).0 f.0))

-- the output of one of these
output_told : (ts : List Transaction) (o : OutPoint) → is_some (output_among ts o) ≡ true → (t : Transaction) × Contains ts t × (txid_of t ≡ o.txid) × (o.index < length t.outputs)
output_told ts o e = by (find test ts) refl e
  where
    test : Transaction → Bool
    test t = bytes_eq o.txid (txid_of t)

    by : (r : Option Transaction) → find test ts ≡ r → is_some (option_and_then (λ (t : Transaction). slice_get t.outputs o.index) r) ≡ true → (t : Transaction) × Contains ts t × (txid_of t ≡ o.txid) × (o.index < length t.outputs)
    by None is e = absurd (true≢false (sym e))
    by (Some t) is e =
        let f = found_in test ts t is in
        let x = some_is (slice_get t.outputs o.index) e in
        (t, f.1, sym ((bytes_eq-Decides o.txid (txid_of t)).0 f.0), slice_get_within t.outputs o.index x.0 x.1)

output_back : (ts : List Transaction) (o : OutPoint) (t : Transaction) → AreOne ts → Contains ts t → txid_of t ≡ o.txid → o.index < length t.outputs → is_some (output_among ts o) ≡ true
output_back ts o t one there name lt = by (find test ts) refl
  where
    test : Transaction → Bool
    test t = bytes_eq o.txid (txid_of t)

    passes : is_some (option_map (λ (t : Transaction). t) (find test ts)) ≡ true
    passes = found_some test (λ (t : Transaction). t) ts ∙ some_passes test ts t there ((bytes_eq-Decides o.txid (txid_of t)).1 (sym name))

    none : {X : Type 0} (xs : List X) (k : ℕ) → k < length xs → is_some (slice_get xs k) ≡ true
    none [] k lt = absurd (omega arith)
    none {X = X} (x ∷ xs) k lt = some_of (slice_get (x ∷ xs) k) (get_or (x ∷ xs) k x) (slice_get-get_or (x ∷ xs) k x lt)

    by : (r : Option Transaction) → find test ts ≡ r → is_some (option_and_then (λ (t : Transaction). slice_get t.outputs o.index) r) ≡ true
    by None is = absurd (true≢false (sym passes ∙ ap (λ (r : Option Transaction). is_some (option_map (λ (t : Transaction). t) r)) is))
    by (Some s) is =
        let f = found_in test ts s is in
        let same : s ≡ t = one s t f.1 there (sym ((bytes_eq-Decides o.txid (txid_of s)).0 f.0) ∙ sym name) in
        none s.outputs o.index (subst (λ (u : Transaction). o.index < length u.outputs) (sym same) lt)

pub known_told : (h : History) (ts : List Transaction) (o : OutPoint) → is_some (worth_of h ts o) ≡ true → IsKnown h ts o
unfolding worth_of
known_told h ts o e = by (or_either (option_map (λ (c : Coin). c.value) (coin_under h o)) (option_map (λ (x : TxOut). x.value) (output_among ts o)) e)
  where
    by : (is_some (option_map (λ (c : Coin). c.value) (coin_under h o)) ≡ true) ⊎ (is_some (option_map (λ (x : TxOut). x.value) (output_among ts o)) ≡ true) → IsKnown h ts o
    by (inl a) =
        let s = some_is (coin_under h o) (sym (mapped (λ (c : Coin). c.value) (coin_under h o)) ∙ a) in
        let u = coin_there h o s.0 s.1 in
        inl (s.0, u.0, u.1)
    by (inr b) = inr (output_told ts o (sym (mapped (λ (x : TxOut). x.value) (output_among ts o)) ∙ b))

pub known_back : (h : History) (ts : List Transaction) (o : OutPoint) → AreOne ts → IsKnown h ts o → is_some (worth_of h ts o) ≡ true
unfolding worth_of
known_back h ts o one (inl k) =
    or_first (option_map (λ (c : Coin). c.value) (coin_under h o)) (option_map (λ (x : TxOut). x.value) (output_among ts o))
    (mapped (λ (c : Coin). c.value) (coin_under h o) ∙ coin_some h o ∙ some_passes (λ (c : Coin). same_outpoint o c.coin) (coins_of h) k.0 k.1 ((same_outpoint-Decides o k.0.coin).1 (sym k.2)))
known_back h ts o one (inr k) =
    or_second (option_map (λ (c : Coin). c.value) (coin_under h o)) (option_map (λ (x : TxOut). x.value) (output_among ts o))
    (mapped (λ (x : TxOut). x.value) (output_among ts o) ∙ output_back ts o k.0 one k.1 k.2 k.3)

pub known_both : (h : History) (ts : List Transaction) (o : OutPoint) → AllPairs (λ (a b : Transaction). txid_of a ≢ txid_of b) ts → (is_some (worth_of h ts o) ≡ true) ↔ IsKnown h ts o
known_both h ts o apart = (known_told h ts o, known_back h ts o (are_one ts apart))

pub fee_known : (h : History) (ts : List Transaction) (t : Transaction) → AllPairs (λ (a b : Transaction). txid_of a ≢ txid_of b) ts → (is_known h ts t ≡ true) ↔ All (λ (i : TxIn). IsKnown h ts i.prev) t.inputs
unfolding is_known
fee_known h ts t apart = (
  λ e. All-weaker (λ (i : TxIn). is_some (worth_of h ts i.prev) ≡ true) (λ (i : TxIn). IsKnown h ts i.prev) (λ i seen. known_told h ts i.prev seen) t.inputs
      (AllPass-from_list_all (λ (i : TxIn). is_some (worth_of h ts i.prev)) t.inputs e),
  λ all. list_all-from_AllPass (λ (i : TxIn). is_some (worth_of h ts i.prev)) t.inputs
      (All-weaker (λ (i : TxIn). IsKnown h ts i.prev) (λ (i : TxIn). is_some (worth_of h ts i.prev) ≡ true) (λ i k. known_back h ts i.prev (are_one ts apart) k) t.inputs all),
)

-- ---- what an outpoint is worth

-- no coin is found exactly where none is there
none_there : (h : History) (o : OutPoint) → coin_under h o ≡ None → All (λ (c : Coin). c.coin ≢ o) (coins_of h)
none_there h o none k d lt same =
    let c = get_or (coins_of h) k d in
    true≢false
    (sym (some_passes (λ (c : Coin). same_outpoint o c.coin) (coins_of h) c (k, lt, get_or_default (coins_of h) k c d lt) ((same_outpoint-Decides o c.coin).1 (sym same)))
    ∙ sym (coin_some h o) ∙ ap (λ (r : Option Coin). is_some r) none)

value_told : (h : History) (ts : List Transaction) (o : OutPoint) (n : ℕ) → worth_of h ts o ≡ Some n → IsCoinsWorth h o n ⊎ IsOutputsWorth h ts o n
unfolding worth_of
value_told h ts o n e = by (coin_under h o) refl e
  where
    test : Transaction → Bool
    test t = bytes_eq o.txid (txid_of t)

    output : coin_under h o ≡ None → (r : Option Transaction) → find test ts ≡ r → option_map (λ (x : TxOut). x.value) (option_and_then (λ (t : Transaction). slice_get t.outputs o.index) r) ≡ Some n → IsOutputsWorth h ts o n
    output none None is e = absurd (none-some n e)
    output none (Some t) is e = at (slice_get t.outputs o.index) refl e
      where
        at : (r : Option TxOut) → slice_get t.outputs o.index ≡ r → option_map (λ (x : TxOut). x.value) r ≡ Some n → IsOutputsWorth h ts o n
        at None there e = absurd (none-some n e)
        at (Some x) there e =
            let f = found_in test ts t is in
            record {
              none = none_there h o none;
              tx = t;
              output = x;
              listed = f.1;
              txid_is = sym ((bytes_eq-Decides o.txid (txid_of t)).0 f.0);
              stands = there;
              value_is = same_Some x.value n e;
            }

    by : (r : Option Coin) → coin_under h o ≡ r → option_or (option_map (λ (c : Coin). c.value) r) (option_map (λ (x : TxOut). x.value) (output_among ts o)) ≡ Some n → IsCoinsWorth h o n ⊎ IsOutputsWorth h ts o n
    by None is e = inr (output is (find test ts) refl e)
    by (Some c) is e = let u = coin_there h o c is in inl (record { coin = c; stands = u.0; point = u.1; value_is = same_Some c.value n e })

-- by the coin that is there
coins_back : (h : History) (ts : List Transaction) (o : OutPoint) (n : ℕ) → AllPairs (λ (a b : Coin). a.coin ≢ b.coin) (coins_of h) → IsCoinsWorth h o n → worth_of h ts o ≡ Some n
unfolding worth_of
coins_back h ts o n apart w = by (coin_under h o) refl
  where
    by : (r : Option Coin) → coin_under h o ≡ r → option_or (option_map (λ (c : Coin). c.value) r) (option_map (λ (x : TxOut). x.value) (output_among ts o)) ≡ Some n
    by None is = absurd (none_there h o is w.stands.0 w.coin w.stands.1 (ap (λ (c : Coin). c.coin) w.stands.2 ∙ w.point))
    by (Some c) is =
        let u = coin_there h o c is in
        let same : c ≡ w.coin = one_of_key (λ (k : Coin). k.coin) (coins_of h) c w.coin apart u.0 w.stands (u.1 ∙ sym w.point) in
        ap (λ (k : Coin). Some k.value) same ∙ ap (λ (v : ℕ). Some v) w.value_is

-- by the output that it names
outputs_back : (h : History) (ts : List Transaction) (o : OutPoint) (n : ℕ) → AllPairs (λ (a b : Transaction). txid_of a ≢ txid_of b) ts → IsOutputsWorth h ts o n → worth_of h ts o ≡ Some n
unfolding worth_of
outputs_back h ts o n apart w = by (coin_under h o) refl
  where
    test : Transaction → Bool
    test t = bytes_eq o.txid (txid_of t)

    there : is_some (option_map (λ (t : Transaction). t) (find test ts)) ≡ true
    there = found_some test (λ (t : Transaction). t) ts ∙ some_passes test ts w.tx w.listed ((bytes_eq-Decides o.txid (txid_of w.tx)).1 (sym w.txid_is))

    found : (r : Option Transaction) → find test ts ≡ r → option_map (λ (x : TxOut). x.value) (option_and_then (λ (t : Transaction). slice_get t.outputs o.index) r) ≡ Some n
    found None is = absurd (true≢false (sym there ∙ ap (λ (r : Option Transaction). is_some (option_map (λ (t : Transaction). t) r)) is))
    found (Some t) is =
        let f = found_in test ts t is in
        let same : t ≡ w.tx = one_of_key txid_of ts t w.tx apart f.1 w.listed (sym ((bytes_eq-Decides o.txid (txid_of t)).0 f.0) ∙ sym w.txid_is) in
        ap (λ (s : Transaction). option_map (λ (x : TxOut). x.value) (slice_get s.outputs o.index)) same
        ∙ ap (option_map (λ (x : TxOut). x.value)) w.stands
        ∙ ap (λ (v : ℕ). Some v) w.value_is

    by : (r : Option Coin) → coin_under h o ≡ r → option_or (option_map (λ (c : Coin). c.value) r) (option_map (λ (x : TxOut). x.value) (output_among ts o)) ≡ Some n
    by None is = found (find test ts) refl
    by (Some c) is = let u = coin_there h o c is in absurd (w.none u.0.0 c u.0.1 (ap (λ (k : Coin). k.coin) u.0.2 ∙ u.1))

pub value_both : (h : History) (ts : List Transaction) (o : OutPoint) (n : ℕ) → AllPairs (λ (a b : Coin). a.coin ≢ b.coin) (coins_of h) → AllPairs (λ (a b : Transaction). txid_of a ≢ txid_of b) ts
    → (worth_of h ts o ≡ Some n) ↔ (IsCoinsWorth h o n ⊎ IsOutputsWorth h ts o n)
value_both h ts o n coins txs = (value_told h ts o n, back)
  where
    back : IsCoinsWorth h o n ⊎ IsOutputsWorth h ts o n → worth_of h ts o ≡ Some n
    back (inl w) = coins_back h ts o n coins w
    back (inr w) = outputs_back h ts o n txs w
