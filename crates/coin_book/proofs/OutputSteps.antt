-- The coins of a transaction are exactly its outputs that pay listed scripts.
use Rattle.std.proofs.Common.{◌≡◌, ◌∙◌, ◌⊎◌, inl, inr, ℕ, zero, suc, ◌<◌, ◌≤◌, Bool, true, false, cond, List, ◌++◌, length, get_or, Option, Some, None, Contains, refl, sym, ap, subst, arith, slice_get}
use Rattle.std.specs.Prelude.{nat_le, option_and_then, option_map, ◌↔◌}
use Rattle.std.specs.List.{AllPairs}
use Rattle.std.specs.Option.{option_to_list}
use Rattle.std.proofs.lemmas.Bool.{cases_order, le-leb, leb-true}
use Rattle.std.proofs.lemmas.List.{append-nil, get_or_default}
use Rattle.std.proofs.lemmas.List.Elements.{Contains-append_cases, Contains-append_left, Contains-append_right}
use Rattle.std.proofs.lemmas.List.Quantifiers.{all_pairs_push}
use Rattle.std.proofs.lemmas.Option.{slice_get_within}
use Rattle.tx_codec.specs.Transaction.{Transaction}
use Rattle.tx_codec.specs.Txid.{txid_of}
use Rattle.tx_codec.specs.declared.tx.TxOut.{TxOut}
use Rattle.coin_book.specs.Coinbase.{is_coinbase_of}
use Rattle.coin_book.specs.Coins.{Made, coin_at, coin_of, coins_below, made_in}
use Rattle.coin_book.specs.Outputs.{IsCoinOf}
use Rattle.coin_book.proofs.SpendSteps.{some_is}

abbrev pub index_of : Made → ℕ
index_of m = m.coin.coin.index

-- ---- one output

this_output : (weigh : List ℕ → Option ℕ) (height : Option ℕ) (t : Transaction) (n : ℕ) (output : TxOut) (m : Made) → n ≤ 4294967295 → slice_get t.outputs n ≡ Some output → coin_of weigh height t n output ≡ Some m → IsCoinOf weigh height t m × (index_of m ≡ n)
unfolding coin_of
this_output weigh height t n output m le at is = by (weigh output.script) refl is
  where
    made : ℕ → Made
    made weight = record { coin = record { coin = record { txid = txid_of t; index = n }; value = output.value; script = output.script; weight = weight; height = height; coinbase = is_coinbase_of t }; maker = t }

    by : (w : Option ℕ) → weigh output.script ≡ w → option_map made w ≡ Some m → IsCoinOf weigh height t m × (index_of m ≡ n)
    by None e is = absurd cc
    by (Some weight) e is =
        let same : made weight ≡ m = cc in
        subst (λ (x : Made). IsCoinOf weigh height t x × (index_of x ≡ n)) same
        (record { output = output; stands = at; within = le; listed = e; txid = refl; value = refl; script = refl; height_is = refl; coinbase = refl; maker = refl }, refl)

pub at_index : (weigh : List ℕ → Option ℕ) (height : Option ℕ) (t : Transaction) (n : ℕ) (m : Made) → coin_at weigh height t n ≡ Some m → IsCoinOf weigh height t m × (index_of m ≡ n)
unfolding coin_at
at_index weigh height t n m is = by (nat_le n 4294967295) refl is
  where
    by_output : n ≤ 4294967295 → (o : Option TxOut) → slice_get t.outputs n ≡ o → option_and_then (coin_of weigh height t n) o ≡ Some m → IsCoinOf weigh height t m × (index_of m ≡ n)
    by_output le None e is = absurd cc
    by_output le (Some output) e is = this_output weigh height t n output m le e is

    by : (b : Bool) → nat_le n 4294967295 ≡ b → cond b (option_and_then (coin_of weigh height t n) (slice_get t.outputs n)) None ≡ Some m → IsCoinOf weigh height t m × (index_of m ≡ n)
    by false e is = absurd cc
    by true e is = by_output (leb-true n 4294967295 e) (slice_get t.outputs n) refl is

-- such an output is a coin
output_at : (weigh : List ℕ → Option ℕ) (height : Option ℕ) (t : Transaction) (m : Made) → IsCoinOf weigh height t m → coin_at weigh height t (index_of m) ≡ Some m
unfolding coin_at coin_of
output_at weigh height t m h =
    ap (λ (b : Bool). cond b (option_and_then (coin_of weigh height t (index_of m)) (slice_get t.outputs (index_of m))) None) (le-leb (index_of m) 4294967295 h.within)
    ∙ ap (option_and_then (coin_of weigh height t (index_of m))) h.stands
    ∙ ap (option_map (λ (weight : ℕ). made weight)) h.listed
    ∙ (λ k. Some (record {
      coin = record {
        coin = record { txid = h.txid k; index = index_of m };
        value = h.value k;
        script = h.script k;
        weight = m.coin.weight;
        height = h.height_is k;
        coinbase = h.coinbase k;
      };
      maker = h.maker k;
    }))
  where
    made : ℕ → Made
    made weight = record { coin = record { coin = record { txid = txid_of t; index = index_of m }; value = h.output.value; script = h.output.script; weight = weight; height = height; coinbase = is_coinbase_of t }; maker = t }

-- ---- all outputs

below_is : (weigh : List ℕ → Option ℕ) (height : Option ℕ) (t : Transaction) (n : ℕ) (m : Made) → Contains (coins_below (coin_at weigh height t) n) m → IsCoinOf weigh height t m × (index_of m < n)
unfolding coins_below
below_is weigh height t zero m c = let lt = c.1 in absurd (omega arith)
below_is weigh height t (suc n) m c = by (below_is weigh height t n m) (Contains-append_cases (coins_below (coin_at weigh height t) n) (option_to_list (coin_at weigh height t n)) m c)
  where
    by : (Contains (coins_below (coin_at weigh height t) n) m → IsCoinOf weigh height t m × (index_of m < n)) → Contains (coins_below (coin_at weigh height t) n) m ⊎ Contains (option_to_list (coin_at weigh height t n)) m → IsCoinOf weigh height t m × (index_of m < suc n)
    by before (inl c) = let h = before c in let lt = h.1 in (h.0, omega arith)
    by before (inr c) = let h = at_index weigh height t n m (some_is (coin_at weigh height t n) m c) in let e = h.1 in (h.0, omega arith)

below_has : (weigh : List ℕ → Option ℕ) (height : Option ℕ) (t : Transaction) (n : ℕ) (m : Made) → coin_at weigh height t (index_of m) ≡ Some m → index_of m < n → Contains (coins_below (coin_at weigh height t) n) m
unfolding coins_below
below_has weigh height t zero m is lt = absurd (omega arith)
below_has weigh height t (suc n) m is lt = by (below_has weigh height t n m is) (cases_order (index_of m) n)
  where
    last : index_of m ≡ n → Contains (option_to_list (coin_at weigh height t n)) m
    last e = subst (λ (found : Option Made). Contains (option_to_list found) m) (sym (ap (coin_at weigh height t) (sym e) ∙ is)) (0, omega arith, refl)

    by : (index_of m < n → Contains (coins_below (coin_at weigh height t) n) m) → (index_of m ≡ n) ⊎ ((index_of m < n) ⊎ (n < index_of m)) → Contains (coins_below (coin_at weigh height t) n ++ option_to_list (coin_at weigh height t n)) m
    by before (inl e) = Contains-append_right (coins_below (coin_at weigh height t) n) (option_to_list (coin_at weigh height t n)) m (last e)
    by before (inr (inl b)) = Contains-append_left (coins_below (coin_at weigh height t) n) (option_to_list (coin_at weigh height t n)) m (before b)
    by before (inr (inr b)) = absurd (omega arith)

abbrev IsEarlier : Made → Made → Type 0
IsEarlier a b = index_of a < index_of b

rising : (weigh : List ℕ → Option ℕ) (height : Option ℕ) (t : Transaction) (n : ℕ) → AllPairs IsEarlier (coins_below (coin_at weigh height t) n)
unfolding coins_below
rising weigh height t zero = λ i j d lt below. absurd (omega arith)
rising weigh height t (suc n) = by (coin_at weigh height t n) refl (rising weigh height t n)
  where
    by : (found : Option Made) → coin_at weigh height t n ≡ found → AllPairs IsEarlier (coins_below (coin_at weigh height t) n) → AllPairs IsEarlier (coins_below (coin_at weigh height t) n ++ option_to_list found)
    by None e h = subst (AllPairs IsEarlier) (sym (append-nil (coins_below (coin_at weigh height t) n))) h
    by (Some m) e h =
        all_pairs_push IsEarlier (coins_below (coin_at weigh height t) n) m h
        (λ k d lt. let x = get_or (coins_below (coin_at weigh height t) n) k d in
        let here = at_index weigh height t n m e in
        let p = here.1 in
        let before = below_is weigh height t n x (k, lt, get_or_default (coins_below (coin_at weigh height t) n) k x d lt) in
        let q = before.1 in
        omega arith)

-- ---- what a transaction makes

pub coins_are : (weigh : List ℕ → Option ℕ) (height : Option ℕ) (t : Transaction) (m : Made) → Contains (made_in weigh height t) m ↔ IsCoinOf weigh height t m
unfolding made_in
coins_are weigh height t m = (there, back)
  where
    there : Contains (coins_below (coin_at weigh height t) (length t.outputs)) m → IsCoinOf weigh height t m
    there c = (below_is weigh height t (length t.outputs) m c).0

    back : IsCoinOf weigh height t m → Contains (coins_below (coin_at weigh height t) (length t.outputs)) m
    back h = below_has weigh height t (length t.outputs) m (output_at weigh height t m h) (slice_get_within t.outputs (index_of m) h.output h.stands)

pub coins_rise : (weigh : List ℕ → Option ℕ) (height : Option ℕ) (t : Transaction) → AllPairs (λ (a b : Made). a.coin.coin.index < b.coin.coin.index) (made_in weigh height t)
unfolding made_in
coins_rise weigh height t = rising weigh height t (length t.outputs)
