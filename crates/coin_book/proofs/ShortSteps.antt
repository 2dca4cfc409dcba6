-- Where memory is short while a block is added: the first coin of a transaction.
use Rattle.std.proofs.Common.{◌≡◌, ◌∙◌, ◌≢◌, inl, inr, ℕ, zero, suc, ◌+◌, ◌<◌, ◌≤◌, Bool, true, false, cond, List, [], ◌∷◌, ◌++◌, length, take, Option, Some, None, Result, Ok, Err, Vec, Global, refl, sym, ap, subst, arith, add-one, append_assoc, true≢false}
use Rattle.std.specs.Prelude.{is_some, unwrap_or, nat_lt}
use Rattle.std.specs.List.{list_any}
use Rattle.std.specs.Map.{keys_of}
use Rattle.std.specs.Option.{option_or, option_to_list}
use Rattle.std.proofs.lemmas.Bool.{cases_order}
use Rattle.fund_base.specs.Outpoints.{same_outpoint}
use Rattle.fund_base.specs.declared.outpoint.OutPoint.{OutPoint}
use Rattle.block_feed.specs.Block.{ChainBlock}
use Rattle.tx_codec.specs.Transaction.{Transaction}
use Rattle.tx_codec.specs.Txid.{txid_of}
use Rattle.coin_book.specs.Coins.{IsFirstPlace, Made, NoneBelow, coin_at, coins_below, made_by, made_in, weight_for}
use Rattle.coin_book.specs.Faults.{fault_behind, points}
use Rattle.coin_book.specs.History.{Confirmed, History, confirmed_in}
use Rattle.coin_book.specs.Invariant.{HoldsChain, IsLedger, points_in, weigher}
use Rattle.coin_book.specs.Short.{IsShortFor, StopsAt}
use Rattle.coin_book.specs.Watched.{PlainWatched}
use Rattle.coin_book.specs.declared.fault.BookFault.{BookFault}
use Rattle.coin_book.specs.declared.fault.BookFault.TheVariants.{Full, Memory, RepeatCoin}
use Rattle.coin_book.specs.declared.held.Held.{Held}
use Rattle.coin_book.specs.declared.ledger.Ledger.{Ledger}
use Rattle.coin_book.proofs.MapSteps.{fault_among, fault_more, fault_one}
use Rattle.coin_book.proofs.OutputSteps.{at_index}

-- ---- the first coin of a transaction

one_found : (o : Option Made) → is_some o ≡ true → (m : Made) × (o ≡ Some m)
one_found None e = absurd (true≢false (sym e))
one_found (Some m) e = (m, refl)

no_list : (o : Option Made) → is_some o ≡ false → option_to_list o ≡ []
no_list None e = refl
no_list (Some m) e = absurd (true≢false e)

none_below : (coin : ℕ → Option Made) (n : ℕ) → NoneBelow coin n → coins_below coin n ≡ []
unfolding coins_below
none_below coin zero none = refl
none_below coin (suc n) none =
    let earlier : coins_below coin n ≡ [] = none_below coin n (λ k lt. none k (omega (arith, lt))) in
    let last : option_to_list (coin n) ≡ [] = no_list (coin n) (none n (omega arith)) in
    λ k. earlier k ++ last k

one_first : (xs ys : List Made) (m : Made) → take 1 xs ≡ m ∷ [] → take 1 (xs ++ ys) ≡ m ∷ []
one_first [] ys m e = absurd cc
one_first (x ∷ xs) ys m e = e

first_below : (coin : ℕ → Option Made) (n i : ℕ) (m : Made) → i < n → NoneBelow coin i → coin i ≡ Some m → take 1 (coins_below coin n) ≡ m ∷ []
unfolding coins_below
first_below coin zero i m lt none is = absurd (omega (arith, lt))
first_below coin (suc n) i m lt none is =
    elim (cases_order i n) [
      | inl same ↦
          let earlier : coins_below coin n ≡ [] = none_below coin n (subst (NoneBelow coin) same none) in
          let last : coin n ≡ Some m = ap coin (sym same) ∙ is in
          λ k. take 1 (earlier k ++ option_to_list (last k))
      | inr two ↦ elim two [
        | inl before ↦ one_first (coins_below coin n) (option_to_list (coin n)) m (first_below coin n i m before none is)
        | inr behind ↦ absurd (omega (arith, lt, behind))
      ]
    ]

take_points : (l : List Made) → points (take 1 l) ≡ take 1 (points l)
take_points [] = refl
take_points (m ∷ l) = refl

-- the outpoint of the coin at a place
point_is : (weigh : List ℕ → Option ℕ) (height : Option ℕ) (t : Transaction) (n : ℕ) (m : Made) → coin_at weigh height t n ≡ Some m → m.coin.coin ≡ record { txid = txid_of t; index = n }
point_is weigh height t n m is = let a = at_index weigh height t n m is in λ k. record { txid = sym a.0.txid k; index = a.1 k }

pub first_points : (weigh : List ℕ → Option ℕ) (height : Option ℕ) (t : Transaction) (place : ℕ) → IsFirstPlace (coin_at weigh height t) (length t.outputs) (Some place) → record { txid = txid_of t; index = place } ∷ [] ≡ take 1 (points (made_in weigh height t))
unfolding made_in
first_points weigh height t place first =
    let found = one_found (coin_at weigh height t place) first.2 in
    let one : take 1 (coins_below (coin_at weigh height t) (length t.outputs)) ≡ found.0 ∷ [] = first_below (coin_at weigh height t) (length t.outputs) place found.0 first.0 first.1 found.1 in
    ap (λ (o : OutPoint). o ∷ []) (sym (point_is weigh height t place found.0 found.1))
    ∙ ap points (sym one)
    ∙ take_points (coins_below (coin_at weigh height t) (length t.outputs))

pub no_points : (weigh : List ℕ → Option ℕ) (height : Option ℕ) (t : Transaction) → NoneBelow (coin_at weigh height t) (length t.outputs) → [] ≡ take 1 (points (made_in weigh height t))
unfolding made_in
no_points weigh height t none = ap (λ (l : List Made). take 1 (points l)) (sym (none_below (coin_at weigh height t) (length t.outputs) none))

-- a place of a coin fits its outpoint
pub place_fits : (weigh : List ℕ → Option ℕ) (height : Option ℕ) (t : Transaction) (n : ℕ) → is_some (coin_at weigh height t n) ≡ true → n ≤ 4294967295
place_fits weigh height t n some =
    let found = one_found (coin_at weigh height t n) some in
    let a = at_index weigh height t n found.0 found.1 in
    omega (arith, a.1, a.0.within)

-- ---- the fault of the first of some outpoints

either_none : (a b : Option BookFault) → option_or a b ≡ None → a ≡ None
either_none None b e = refl
either_none (Some x) b e = absurd cc

first_none : (before : List OutPoint) (o : OutPoint) (rest : List OutPoint) → fault_behind before (o ∷ rest) ≡ None → fault_behind before (o ∷ []) ≡ None
first_none before o rest none = either_none (fault_behind before (o ∷ [])) (fault_behind (before ++ o ∷ []) rest) (sym (fault_more before (o ∷ []) rest) ∙ none)

-- where some first ones have no fault, the first has none
pub short_none : (before os : List OutPoint) (n : ℕ) → fault_behind before (take (n + 1) os) ≡ None → fault_behind before (take 1 os) ≡ None
unfolding fault_behind
short_none before [] n none = refl
short_none before (o ∷ os) n none = first_none before o (take n os) (rw add-one at none)

-- nor where none has one
pub all_none : (before os : List OutPoint) → fault_behind before os ≡ None → fault_behind before (take 1 os) ≡ None
all_none before [] none = none
all_none before (o ∷ os) none = first_none before o os none

-- the fault of the first is that of all
first_fault : (before os : List OutPoint) (e : BookFault) → fault_behind before (take 1 os) ≡ Some e → fault_behind before os ≡ Some e
first_fault before [] e here = here
first_fault before (o ∷ os) e here = fault_among before (o ∷ []) os e here

-- a fault of outpoints isn't being out of memory
never_memory : (before os : List OutPoint) → fault_behind before (take 1 os) ≡ Some Memory → ⊥
unfolding fault_behind
never_memory before [] is = absurd cc
never_memory before (o ∷ os) is = by (list_any (same_outpoint o) before) (nat_lt (length before) 100_000) (sym (fault_one before o) ∙ is)
  where
    by : (b room : Bool) → cond b (Some (RepeatCoin o)) (cond room None (Some Full)) ≡ Some Memory → ⊥
    by true room e = absurd cc
    by false true e = absurd cc
    by false false e = absurd cc

-- what is told of the first, where memory is short
pub told_short : (before os : List OutPoint) (e : BookFault) → e ≡ unwrap_or (fault_behind before (take 1 os)) Memory → e ≡ Memory → fault_behind before (take 1 os) ≡ None
told_short before os e is short = by (fault_behind before (take 1 os)) refl (sym is ∙ short)
  where
    by : (o : Option BookFault) → fault_behind before (take 1 os) ≡ o → unwrap_or o Memory ≡ Memory → o ≡ None
    by None here e = refl
    by (Some d) here e = absurd (never_memory before os (here ∙ ap (λ (x : BookFault). Some x) e))

pub told_fault : (before os : List OutPoint) (e : BookFault) → e ≡ unwrap_or (fault_behind before (take 1 os)) Memory → e ≢ Memory → fault_behind before os ≡ Some e
told_fault before os e is other = first_fault before os e (by (fault_behind before (take 1 os)) is)
  where
    by : (o : Option BookFault) → e ≡ unwrap_or o Memory → o ≡ Some e
    by None same = absurd (other same)
    by (Some d) same = ap (λ (x : BookFault). Some x) (sym same)

told_or : {A : Type 0} → BookFault → Result A BookFault → BookFault
told_or d (Ok a) = d
told_or d (Err e) = e

-- what one call is told, another is
pub same_fault : {A B : Type 0} (d e : BookFault) → ◌≡◌ {A = Result A BookFault} (Err d) (Err e) → ◌≡◌ {A = Result B BookFault} (Err d) (Err e)
unfolding told_or
same_fault d e is = ap (λ (x : BookFault). Err x) (ap (told_or d) is)

-- nothing is told of no outpoints
pub none_told : (before : List OutPoint) (os : List OutPoint) → [] ≡ os → Memory ≡ unwrap_or (fault_behind before os) Memory
unfolding fault_behind
none_told before os none = ap (λ (l : List OutPoint). unwrap_or (fault_behind before l) Memory) none

-- ---- a transaction behind others

-- the keys of the maps are the outpoints of the coins
pub keys_points : (w : PlainWatched) (weigh : List ℕ → Option ℕ) (before behind : List Confirmed) (base old : Ledger) (os : List OutPoint) → HoldsChain w weigh [] before base → HoldsChain w weigh before behind old
    → fault_behind (keys_of base.coins.entries ++ keys_of old.coins.entries) os ≡ fault_behind (points_in weigh before ++ points_in weigh behind) os
keys_points w weigh before behind base old os under h = λ k. fault_behind (under.coins.keys_are k ++ h.coins.keys_are k) os

-- memory was short for this one
pub stops_at : (weigh : List ℕ → Option ℕ) (before all front : List Confirmed) (one : Confirmed) (rest : List Confirmed) → all ≡ (front ++ one ∷ []) ++ rest → fault_behind (points_in weigh before) (points_in weigh front) ≡ None
    → fault_behind (points_in weigh before ++ points_in weigh front) (take 1 (points (made_by weigh one))) ≡ None → StopsAt weigh before all
stops_at weigh before all front one rest parts fresh here = record {
  front = front;
  one = one;
  rest = rest;
  parts = parts ∙ append_assoc front (one ∷ []) rest;
  sound = fault_more (points_in weigh before) (points_in weigh front) (take 1 (points (made_by weigh one))) ∙ (λ k. option_or (fresh k) (fault_behind (points_in weigh before ++ points_in weigh front) (take 1 (points (made_by weigh one))))) ∙ here;
}

-- memory was short for a transaction of a block, under the weights that are held
pub short_block : (h : History) (w : PlainWatched) (ws : List (Vec ℕ Global × ℕ)) (l : Ledger) (ps : List (OutPoint × Held)) (txids : List (List ℕ)) (count : ℕ) (b : ChainBlock) (chain : List Confirmed) → IsLedger h w ws l ps txids count → chain ≡ confirmed_in b → StopsAt (weigher ws) h.confirmed chain → IsShortFor h b
short_block h w ws l ps txids count b chain k same stops = inl (subst (StopsAt (weight_for h.scripts) h.confirmed) same (subst (λ (f : List ℕ → Option ℕ). StopsAt f h.confirmed chain) k.weights_are stops))
