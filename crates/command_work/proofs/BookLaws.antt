-- A book holds the coins of a workload whose transactions have distinct txids.
use Rattle.std.proofs.Common.{◌≡◌, ◌≢◌, ◌∙◌, ℕ, zero, suc, ◌+◌, ◌<◌, ◌≤◌, List, [], ◌∷◌, ◌++◌, length, map, get_or, Option, Some, None, refl, sym, ap, subst, arith, Contains, All, AllPairs}
use Rattle.std.specs.Prelude.{⊤, sum_by}
use Rattle.std.specs.List.{flat_map, range_with_len}
use Rattle.std.specs.Option.{option_to_list}
use Rattle.std.proofs.lemmas.List.{append-nil, length-append, length-map, map-append}
use Rattle.std.proofs.lemmas.List.Elements.{All-append, All-contains, All-contains_itself, All-head, All-map, All-nil, All-tail, All-weaker}
use Rattle.std.proofs.lemmas.List.FromFn.{length-range_with_len}
use Rattle.std.proofs.lemmas.List.Kept.{AllPairs-cons}
use Rattle.std.proofs.lemmas.List.Sums.{get_or-le-sum_by}
use Rattle.std.proofs.lemmas.Option.{get_or_from_slice_get, slice_get_within}
use Rattle.fund_base.specs.declared.outpoint.OutPoint.{OutPoint}
use Rattle.tx_codec.specs.declared.tx.TxOut.{TxOut}
use Rattle.tx_codec.specs.Transaction.{Transaction}
use Rattle.tx_codec.specs.Txid.{txid_of}
use Rattle.wallet_text.specs.WalletRules.{AreDistinctEarlier}
use Rattle.wallet_text.specs.PlainWallet.{Earlier}
use Rattle.wallet_text.specs.declared.wallet.Watch.{Watch}
use Rattle.coin_book.proofs.OutputSteps.{coins_are}
use Rattle.coin_book.proofs.RepeatSteps.{coin_count, no_fault}
use Rattle.coin_book.specs.Coins.{Made, coin_at, coins_below, coins_of, confirmed_made, made_by, made_in, made_of, weight_for}
use Rattle.coin_book.specs.Faults.{fault_of, points}
use Rattle.coin_book.specs.History.{Confirmed, History, confirmed_before}
use Rattle.coin_book.specs.Outputs.{IsCoinOf}
use Rattle.payment_states.proofs.FitSteps.{all_flat}
use Rattle.command_work.proofs.CoinLaws.{value_most}
use Rattle.command_work.specs.Kinds.{watches}
use Rattle.command_work.specs.Load.{earlier_at, earlier_of, maker_of}
use Rattle.command_work.specs.Outcome.{load_of}

-- ---- lists of outpoints

-- no two are the same
abbrev Apart : List OutPoint → Type 0
Apart [] = ⊤
Apart (x ∷ xs) = All (λ y. x ≢ y) xs × Apart xs

apart_pairs : (xs : List OutPoint) → Apart xs → AllPairs (λ x y. x ≢ y) xs
apart_pairs [] h = λ i j d lt in'. absurd (omega arith)
apart_pairs (x ∷ xs) h = AllPairs-cons (λ x y. x ≢ y) x xs h.0 (apart_pairs xs h.1)

apart_append : (xs ys : List OutPoint) → Apart xs → Apart ys → All (λ x. All (λ y. x ≢ y) ys) xs → Apart (xs ++ ys)
apart_append [] ys a b c = b
apart_append (x ∷ xs) ys a b c =
    (All-append (λ y. x ≢ y) xs ys a.0 (All-head (λ x. All (λ y. x ≢ y) ys) x xs c), apart_append xs ys a.1 b (All-tail (λ x. All (λ y. x ≢ y) ys) x xs c))

abbrev point : Made → OutPoint
point m = m.coin.coin

single : (ms : List Made) → length ms ≤ 1 → Apart (points ms)
single [] h = tt
single (m ∷ []) h = (All-nil (λ y. point m ≢ y), tt)
single (m ∷ n ∷ ms) h = absurd (omega arith)

-- ---- transactions with one coin at most

-- such a transaction, worth 5,009,999 satoshi at most
record IsSmall (c : Confirmed) : Type 0 where
  outputs : length c.tx.outputs ≤ 1
  worth : sum_by (λ (o : TxOut). o.value) c.tx.outputs ≤ 5_009_999

-- and its coin
abbrev pub IsCheap : Made → Type 0
IsCheap m = m.coin.value ≤ 5_009_999

few_at : {X : Type 0} (o : Option X) → length (option_to_list o) ≤ 1
few_at None = omega arith
few_at (Some x) = omega arith

few_below : (coin : ℕ → Option Made) (n : ℕ) → length (coins_below coin n) ≤ n
unfolding coins_below
few_below coin zero = omega arith
few_below coin (suc n) =
    let front = few_below coin n in
    let joined = length-append (coins_below coin n) (option_to_list (coin n)) in
    let one = few_at (coin n) in
    omega arith

few_made : (weigh : List ℕ → Option ℕ) (height : Option ℕ) (t : Transaction) → length (made_in weigh height t) ≤ length t.outputs
unfolding made_in
few_made weigh height t = few_below (coin_at weigh height t) (length t.outputs)

one_made : (weigh : List ℕ → Option ℕ) (c : Confirmed) → IsSmall c → length (made_by weigh c) ≤ 1
one_made weigh c small =
    let few = few_made weigh (Some c.height) c.tx in
    let one = small.outputs in
    omega arith

few_all : (weigh : List ℕ → Option ℕ) (cs : List Confirmed) → All IsSmall cs → length (flat_map (made_by weigh) cs) ≤ length cs
few_all weigh [] h = omega arith
few_all weigh (c ∷ cs) h =
    let joined = length-append (made_by weigh c) (flat_map (made_by weigh) cs) in
    let rest = few_all weigh cs (All-tail IsSmall c cs h) in
    let one = one_made weigh c (All-head IsSmall c cs h) in
    omega arith

-- ---- what the coins are worth

cheap_made : (weigh : List ℕ → Option ℕ) (c : Confirmed) → IsSmall c → All IsCheap (made_by weigh c)
cheap_made weigh c small = All-weaker (Contains (made_by weigh c)) IsCheap (λ m there. cheap m ((coins_are weigh (Some c.height) c.tx m).0 there)) (made_by weigh c) (All-contains_itself (made_by weigh c))
  where
    cheap : (m : Made) → IsCoinOf weigh (Some c.height) c.tx m → IsCheap m
    cheap m f =
        let within = slice_get_within c.tx.outputs m.coin.coin.index f.output f.stands in
        let le = get_or-le-sum_by (λ (o : TxOut). o.value) c.tx.outputs m.coin.coin.index f.output within in
        let is : (get_or c.tx.outputs m.coin.coin.index f.output).value ≡ f.output.value = ap (λ (o : TxOut). o.value) (get_or_from_slice_get c.tx.outputs m.coin.coin.index f.output f.output f.stands) in
        let same = f.value in
        let most = small.worth in
        omega arith

cheap_all : (weigh : List ℕ → Option ℕ) (cs : List Confirmed) → All IsSmall cs → All IsCheap (flat_map (made_by weigh) cs)
cheap_all weigh cs h = all_flat IsCheap (made_by weigh) cs (λ c there. cheap_made weigh c (All-contains IsSmall cs c h there))

-- ---- each output once

abbrev AreDistinctConfirmed : List Confirmed → Type 0
AreDistinctConfirmed cs = AllPairs (λ (a b : Confirmed). txid_of a.tx ≢ txid_of b.tx) cs

own_txid : (weigh : List ℕ → Option ℕ) (c : Confirmed) → All (λ (m : Made). txid_of c.tx ≡ m.coin.coin.txid) (made_by weigh c)
own_txid weigh c = All-weaker (Contains (made_by weigh c)) (λ (m : Made). txid_of c.tx ≡ m.coin.coin.txid) (λ m there. own m ((coins_are weigh (Some c.height) c.tx m).0 there)) (made_by weigh c) (All-contains_itself (made_by weigh c))
  where
    own : (m : Made) → IsCoinOf weigh (Some c.height) c.tx m → txid_of c.tx ≡ m.coin.coin.txid
    own m f = f.txid

made_apart : (weigh : List ℕ → Option ℕ) (cs : List Confirmed) → All IsSmall cs → AreDistinctConfirmed cs → Apart (points (flat_map (made_by weigh) cs))
made_apart weigh [] h d = tt
made_apart weigh (c ∷ cs) h d =
    subst Apart (sym (map-append point (made_by weigh c) (flat_map (made_by weigh) cs)))
    (apart_append (points (made_by weigh c)) (points (flat_map (made_by weigh) cs)) (single (made_by weigh c) (one_made weigh c (All-head IsSmall c cs h))) (made_apart weigh cs (All-tail IsSmall c cs h) rest)
    (All-map (λ x. All (λ y. x ≢ y) (points (flat_map (made_by weigh) cs))) point (made_by weigh c)
    (All-weaker (λ (m : Made). txid_of c.tx ≡ m.coin.coin.txid) (λ (m : Made). All (λ y. point m ≢ y) (points (flat_map (made_by weigh) cs)))
    (λ m own. All-map (λ y. point m ≢ y) point (flat_map (made_by weigh) cs)
    (all_flat (λ (k : Made). point m ≢ point k) (made_by weigh) cs (λ e there. All-weaker (λ (k : Made). txid_of e.tx ≡ k.coin.coin.txid) (λ (k : Made). point m ≢ point k)
    (λ k other same. All-contains (λ (e : Confirmed). txid_of c.tx ≢ txid_of e.tx) cs e first there (own ∙ ap (λ (o : OutPoint). o.txid) same ∙ sym other)) (made_by weigh e) (own_txid weigh e))))
    (made_by weigh c) (own_txid weigh c))))
  where
    rest : AreDistinctConfirmed cs
    rest = λ i j x lt in'. d (suc i) (suc j) x (omega arith) (omega arith)

    first : All (λ (e : Confirmed). txid_of c.tx ≢ txid_of e.tx) cs
    first = λ k x in'. d 0 (suc k) x (omega arith) (omega arith)

-- ---- a book of such transactions

-- the history of confirmed transactions alone
abbrev chain_history : List Watch → List Confirmed → History
chain_history ws cs = record { scripts = ws; confirmed = cs; pending = [] }

few_coins : (ws : List Watch) (cs : List Confirmed) → All IsSmall cs → length (coins_of (chain_history ws cs)) ≤ length cs
few_coins ws cs h =
    let n = coin_count (chain_history ws cs) in
    let m = few_all (weight_for ws) cs h in
    omega arith

sound_chain : (ws : List Watch) (cs : List Confirmed) → All IsSmall cs → AreDistinctConfirmed cs → length cs ≤ 100_000 → fault_of (chain_history ws cs) ≡ None
sound_chain ws cs h d le =
    let few = few_coins ws cs h in
    (no_fault (chain_history ws cs)).1 (apart_pairs (points (confirmed_made (chain_history ws cs))) (made_apart (weight_for ws) cs h d), omega arith)

cheap_chain : (ws : List Watch) (cs : List Confirmed) → All IsSmall cs → All IsCheap (made_of (chain_history ws cs))
unfolding made_of
cheap_chain ws cs h = All-append IsCheap (flat_map (made_by (weight_for ws)) cs) [] (cheap_all (weight_for ws) cs h) (All-nil IsCheap)

-- ---- the workload's

small_at : (number i : ℕ) → IsSmall (confirmed_before (earlier_at number i))
unfolding maker_of
small_at number i = record { outputs = omega arith; worth = let most = value_most number i in omega arith }

abbrev chain_of : ℕ → ℕ → List Confirmed
chain_of number count = map confirmed_before (earlier_of number count)

small_chain : (number count : ℕ) → All IsSmall (chain_of number count)
small_chain number count =
    All-map IsSmall confirmed_before (earlier_of number count)
    (All-map (λ (e : Earlier). IsSmall (confirmed_before e)) (earlier_at number) (range_with_len 0 count) (λ k d lt. small_at number (get_or (range_with_len 0 count) k d)))

distinct_chain : (es : List Earlier) → AreDistinctEarlier es → AreDistinctConfirmed (map confirmed_before es)
distinct_chain [] h = λ i j d lt in'. absurd (omega arith)
distinct_chain (e ∷ es) h =
    AllPairs-cons (λ (a b : Confirmed). txid_of a.tx ≢ txid_of b.tx) (confirmed_before e) (map confirmed_before es)
    (All-map (λ (b : Confirmed). txid_of e.tx ≢ txid_of b.tx) confirmed_before es (λ k d in'. h 0 (suc k) d (omega arith) (omega arith)))
    (distinct_chain es (λ i j d lt in'. h (suc i) (suc j) d (omega arith) (omega arith)))

pub chain_length : (number count : ℕ) → length (chain_of number count) ≡ count
chain_length number count = length-map (earlier_of number count) confirmed_before ∙ length-map (range_with_len 0 count) (earlier_at number) ∙ length-range_with_len 0 count

-- behind the workload's transactions stand no blocks
pub chain_whole : (number count : ℕ) → (load_of number count).book ≡ chain_history watches (chain_of number count)
chain_whole number count = ap (λ (cs : List Confirmed). chain_history watches cs) (append-nil (chain_of number count))

pub load_sound : (number count : ℕ) → count ≤ 10_000 → AreDistinctEarlier (earlier_of number count) → fault_of (load_of number count).book ≡ None
load_sound number count le distinct =
    let long = chain_length number count in
    ap fault_of (chain_whole number count)
    ∙ sound_chain watches (chain_of number count) (small_chain number count) (distinct_chain (earlier_of number count) distinct) (omega arith)

pub load_few : (number count : ℕ) → length (coins_of (load_of number count).book) ≤ count
load_few number count =
    let long = chain_length number count in
    let few = few_coins watches (chain_of number count) (small_chain number count) in
    subst (λ (h : History). length (coins_of h) ≤ count) (sym (chain_whole number count)) (omega arith)

pub load_cheap : (number count : ℕ) → All IsCheap (made_of (load_of number count).book)
load_cheap number count = subst (λ (h : History). All IsCheap (made_of h)) (sym (chain_whole number count)) (cheap_chain watches (chain_of number count) (small_chain number count))
