-- The coins of a transaction, one by one.
use Rattle.std.proofs.Common.{◌≡◌, ◌∙◌, ℕ, zero, suc, ◌+◌, ◌<◌, arith, below_more as below_next, length, List, ◌++◌, map, Option, Some, None, refl, sym, ap, add-one, cond, Bool, true, false, true≢false, slice_get}
use Rattle.std.specs.Prelude.{is_some, option_map, option_and_then, nat_le}
use Rattle.std.specs.Option.{option_to_list}
use Rattle.std.proofs.lemmas.List.{length-append, length-map, map-append}
use Rattle.tx_codec.specs.Transaction.{Transaction}
use Rattle.tx_codec.specs.Txid.{txid_of}
use Rattle.coin_book.specs.Coinbase.{is_coinbase_of}
use Rattle.tx_codec.specs.declared.tx.TxOut.{TxOut}
use Rattle.coin_book.specs.Coins.{Made, coin_at, coin_of, coins_below}
use Rattle.coin_book.specs.Invariant.{coin_made}
use Rattle.coin_book.specs.declared.coin.Coin.{Coin}

abbrev coins : List Made → List Coin
coins made = map (λ (m : Made). m.coin) made

listed : (o : Option Made) → option_to_list (coin_made o) ≡ coins (option_to_list o)
listed None = refl
listed (Some m) = refl

-- one place further
pub below_more : (coin : ℕ → Option Made) (n : ℕ) (old new : List Coin) (found : Option Coin) → found ≡ coin_made (coin n) → new ≡ old ++ option_to_list found
    → old ≡ coins (coins_below coin n) → new ≡ coins (coins_below coin (n + 1))
unfolding coins_below
below_more coin n old new found is more so_far =
    rw add-one (more ∙ (λ k. so_far k ++ option_to_list (is k)) ∙ ap (λ (l : List Coin). coins (coins_below coin n) ++ l) (listed (coin n)) ∙ sym (map-append (λ (m : Made). m.coin) (coins_below coin n) (option_to_list (coin n))))

-- ---- each coin of a transaction has it as its maker

abbrev pub by_maker : Transaction → Coin → Made
by_maker t c = record { coin = c; maker = t }

abbrev again : Transaction → List Made → List Made
again t made = map (by_maker t) (coins made)

again_of : (weigh : List ℕ → Option ℕ) (height : Option ℕ) (t : Transaction) (index : ℕ) (output : TxOut) → again t (option_to_list (coin_of weigh height t index output)) ≡ option_to_list (coin_of weigh height t index output)
unfolding coin_of
again_of weigh height t index output = by (weigh output.script)
  where
    made : ℕ → Made
    made weight = record { coin = record { coin = record { txid = txid_of t; index = index }; value = output.value; script = output.script; weight = weight; height = height; coinbase = is_coinbase_of t }; maker = t }

    by : (w : Option ℕ) → again t (option_to_list (option_map made w)) ≡ option_to_list (option_map made w)
    by None = refl
    by (Some weight) = refl

again_at : (weigh : List ℕ → Option ℕ) (height : Option ℕ) (t : Transaction) (index : ℕ) → again t (option_to_list (coin_at weigh height t index)) ≡ option_to_list (coin_at weigh height t index)
unfolding coin_at
again_at weigh height t index = by (nat_le index 4294967295)
  where
    by_output : (o : Option TxOut) → again t (option_to_list (option_and_then (coin_of weigh height t index) o)) ≡ option_to_list (option_and_then (coin_of weigh height t index) o)
    by_output None = refl
    by_output (Some output) = again_of weigh height t index output

    by : (b : Bool) → again t (option_to_list (cond b (option_and_then (coin_of weigh height t index) (slice_get t.outputs index)) None)) ≡ option_to_list (cond b (option_and_then (coin_of weigh height t index) (slice_get t.outputs index)) None)
    by false = refl
    by true = by_output (slice_get t.outputs index)

again_below : (weigh : List ℕ → Option ℕ) (height : Option ℕ) (t : Transaction) (n : ℕ) → again t (coins_below (coin_at weigh height t) n) ≡ coins_below (coin_at weigh height t) n
unfolding coins_below
again_below weigh height t zero = refl
again_below weigh height t (suc n) =
    let front = coins_below (coin_at weigh height t) n in
    let last = option_to_list (coin_at weigh height t n) in
    ap (map (by_maker t)) (map-append (λ (m : Made). m.coin) front last)
    ∙ map-append (by_maker t) (coins front) (coins last)
    ∙ λ k. again_below weigh height t n k ++ again_at weigh height t n k

-- coins that are each given the transaction
pub with_maker : (weigh : List ℕ → Option ℕ) (height : Option ℕ) (t : Transaction) (n : ℕ) (cs : List Coin) → cs ≡ coins (coins_below (coin_at weigh height t) n) → map (by_maker t) cs ≡ coins_below (coin_at weigh height t) n
with_maker weigh height t n cs is = ap (map (by_maker t)) is ∙ again_below weigh height t n

-- one place further, each coin with the transaction
pub held_more : (weigh : List ℕ → Option ℕ) (height : Option ℕ) (t : Transaction) (n : ℕ) (old new : List Made) (found : Option Coin) → found ≡ coin_made (coin_at weigh height t n)
    → new ≡ old ++ map (by_maker t) (option_to_list found) → old ≡ coins_below (coin_at weigh height t) n → new ≡ coins_below (coin_at weigh height t) (n + 1)
unfolding coins_below
held_more weigh height t n old new found is more so_far =
    rw add-one (
    more
    ∙ (λ k. so_far k ++ map (by_maker t) (option_to_list (is k)))
    ∙ ap (λ (l : List Made). coins_below (coin_at weigh height t) n ++ l) (ap (map (by_maker t)) (listed (coin_at weigh height t n)) ∙ again_at weigh height t n)
    )

-- ---- where there is a coin

pub one_of : (o : Option Made) → is_some o ≡ true → length (option_to_list o) ≡ 1
one_of None e = absurd (true≢false (sym e))
one_of (Some m) e = refl

pub one_below : (coin : ℕ → Option Made) (n i : ℕ) → i < n → is_some (coin i) ≡ true → 0 < length (coins_below coin n)
unfolding coins_below
one_below coin zero i lt is = absurd (omega arith)
one_below coin (suc n) i lt is =
    let all = coins_below coin n ++ option_to_list (coin n) in
    let more : length all ≡ length (coins_below coin n) + length (option_to_list (coin n)) = length-append (coins_below coin n) (option_to_list (coin n)) in
    below_next (λ k. is_some (coin k) ≡ true → 0 < length all) n
    (λ k low there. let before = one_below coin n k low there in omega arith)
    (λ there. let here = one_of (coin n) there in omega arith) i (omega arith) is

pub some_found : (c : Coin) (o : Option Made) → Some c ≡ coin_made o → is_some o ≡ true
some_found c None e = cc
some_found c (Some m) e = refl

pub some_made : (cs : List Coin) (made : List Made) → cs ≡ coins made → 0 < length cs → 0 < length made
some_made cs made is lt = let n : length cs ≡ length made = ap (λ (l : List Coin). length l) is ∙ length-map made (λ (m : Made). m.coin) in omega arith

-- how many there are, one place further
pub count_more : (coin : ℕ → Option Made) (n : ℕ) → length (coins_below coin (n + 1)) ≡ length (coins_below coin n) + length (option_to_list (coin n))
unfolding coins_below
count_more coin n = rw add-one (length-append (coins_below coin n) (option_to_list (coin n)))

pub counted_none : (o : Option Made) → is_some o ≡ false → length (option_to_list o) ≡ 0
counted_none None e = refl
counted_none (Some m) e = absurd (true≢false e)
