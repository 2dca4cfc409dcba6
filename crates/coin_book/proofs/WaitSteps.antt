-- The coins of a transaction that waits.
use Rattle.std.proofs.Common.{◌≡◌, ◌≢◌, ◌∙◌, ℕ, zero, suc, ◌+◌, ◌<◌, ◌≤◌, Bool, true, false, cond, ◌||◌, ◌&&◌, List, [], ◌∷◌, ◌++◌, length, map, filter, Option, Some, None, All, refl, sym, ap, subst, arith, slice_get}
use Rattle.std.specs.Prelude.{◌==◌, bytes_eq, is_some, nat_le, nat_lt, option_and_then, option_map}
use Rattle.std.specs.List.{flat_map, list_any}
use Rattle.std.specs.Map.{keys_of, lookup}
use Rattle.std.specs.Option.{option_or, option_to_list}
use Rattle.std.proofs.lemmas.Bool.{ltb-false, ltb-true, ne_eqb, and_right}
use Rattle.std.proofs.lemmas.List.{append-nil, length-append, map-append}
use Rattle.std.proofs.lemmas.List.Elements.{All-head, All-tail}
use Rattle.std.proofs.lemmas.List.Folds.{list_any-append}
use Rattle.std.proofs.lemmas.Slice.Eq.{bytes_eq-Decides}
use Rattle.fund_base.specs.Outpoints.{same_outpoint}
use Rattle.fund_base.specs.declared.outpoint.OutPoint.{OutPoint}
use Rattle.tx_codec.specs.Transaction.{Transaction}
use Rattle.tx_codec.specs.Txid.{txid_of}
use Rattle.tx_codec.specs.declared.tx.TxOut.{TxOut}
use Rattle.coin_book.specs.Coinbase.{is_coinbase_of}
use Rattle.coin_book.specs.Coins.{Made, coin_at, coin_of, coins_below, made_in}
use Rattle.coin_book.specs.Faults.{fault_behind, full_at, points}
use Rattle.coin_book.specs.declared.fault.BookFault.{BookFault}
use Rattle.coin_book.specs.declared.fault.BookFault.TheVariants.{Full, RepeatCoin}
use Rattle.coin_book.proofs.FaultSteps.{no_room_for, room_for}
use Rattle.coin_book.specs.Invariant.{HoldsCoins, held_made, made_at, made_waiting}
use Rattle.coin_book.specs.Merging.{entry_of, held_point}
use Rattle.coin_book.specs.declared.held.Held.{Held}
use Rattle.coin_book.proofs.ChainSteps.{coins_more}
use Rattle.coin_book.proofs.MapSteps.{fault_more, fault_one}

-- ---- where the coins of a transaction stand

abbrev pub place_of : List ℕ → ℕ → OutPoint
place_of txid n = record { txid = txid; index = n }

-- the outpoint at a place, where a coin is there
abbrev spot : Bool → Transaction → ℕ → List OutPoint
spot b t n = cond b (place_of (txid_of t) n ∷ []) []

of_spot : (weigh : List ℕ → Option ℕ) (height : Option ℕ) (t : Transaction) (index : ℕ) (output : TxOut)
    → points (option_to_list (coin_of weigh height t index output)) ≡ spot (is_some (coin_of weigh height t index output)) t index
unfolding coin_of
of_spot weigh height t index output = by (weigh output.script)
  where
    made : ℕ → Made
    made weight = record { coin = record { coin = record { txid = txid_of t; index = index }; value = output.value; script = output.script; weight = weight; height = height; coinbase = is_coinbase_of t }; maker = t }

    by : (w : Option ℕ) → points (option_to_list (option_map made w)) ≡ spot (is_some (option_map made w)) t index
    by None = refl
    by (Some weight) = refl

at_spot : (weigh : List ℕ → Option ℕ) (height : Option ℕ) (t : Transaction) (index : ℕ) → points (option_to_list (coin_at weigh height t index)) ≡ spot (is_some (coin_at weigh height t index)) t index
unfolding coin_at
at_spot weigh height t index = by (nat_le index 4294967295)
  where
    by_output : (o : Option TxOut) → points (option_to_list (option_and_then (coin_of weigh height t index) o)) ≡ spot (is_some (option_and_then (coin_of weigh height t index) o)) t index
    by_output None = refl
    by_output (Some output) = of_spot weigh height t index output

    by : (b : Bool) → points (option_to_list (cond b (option_and_then (coin_of weigh height t index) (slice_get t.outputs index)) None)) ≡ spot (is_some (cond b (option_and_then (coin_of weigh height t index) (slice_get t.outputs index)) None)) t index
    by false = refl
    by true = by_output (slice_get t.outputs index)

spots_more : (weigh : List ℕ → Option ℕ) (height : Option ℕ) (t : Transaction) (n : ℕ)
    → points (coins_below (coin_at weigh height t) (suc n)) ≡ points (coins_below (coin_at weigh height t) n) ++ spot (is_some (coin_at weigh height t n)) t n
unfolding coins_below
spots_more weigh height t n =
    let front = coins_below (coin_at weigh height t) n in
    map-append (λ (m : Made). m.coin.coin) front (option_to_list (coin_at weigh height t n))
    ∙ ap (λ (os : List OutPoint). points front ++ os) (at_spot weigh height t n)

other_index : (b : Bool) (t : Transaction) (k n : ℕ) → n < k → list_any (same_outpoint (place_of (txid_of t) k)) (spot b t n) ≡ false
other_index false t k n lt = refl
other_index true t k n lt = ap (λ (b : Bool). b || false) (and_right (bytes_eq (txid_of t) (txid_of t)) (k == n) (ne_eqb k n (omega arith)))

other_txid : (b : Bool) (id : List ℕ) (t : Transaction) (k n : ℕ) → bytes_eq id (txid_of t) ≡ false → list_any (same_outpoint (place_of id k)) (spot b t n) ≡ false
other_txid false id t k n e = refl
other_txid true id t k n e = ap (λ (b : Bool). (b && (k == n)) || false) e

-- a later place is none of them
no_index : (weigh : List ℕ → Option ℕ) (height : Option ℕ) (t : Transaction) (k n : ℕ) → n ≤ k → list_any (same_outpoint (place_of (txid_of t) k)) (points (coins_below (coin_at weigh height t) n)) ≡ false
unfolding coins_below
no_index weigh height t k zero le = refl
no_index weigh height t k (suc n) le =
    ap (list_any (same_outpoint (place_of (txid_of t) k))) (spots_more weigh height t n)
    ∙ list_any-append (same_outpoint (place_of (txid_of t) k)) (points (coins_below (coin_at weigh height t) n)) (spot (is_some (coin_at weigh height t n)) t n)
    ∙ (λ j. no_index weigh height t k n (omega arith) j || other_index (is_some (coin_at weigh height t n)) t k n (omega arith) j)

-- nor is an output of another txid
no_txid : (weigh : List ℕ → Option ℕ) (height : Option ℕ) (id : List ℕ) (t : Transaction) (k n : ℕ) → bytes_eq id (txid_of t) ≡ false → list_any (same_outpoint (place_of id k)) (points (coins_below (coin_at weigh height t) n)) ≡ false
unfolding coins_below
no_txid weigh height id t k zero e = refl
no_txid weigh height id t k (suc n) e =
    ap (list_any (same_outpoint (place_of id k))) (spots_more weigh height t n)
    ∙ list_any-append (same_outpoint (place_of id k)) (points (coins_below (coin_at weigh height t) n)) (spot (is_some (coin_at weigh height t n)) t n)
    ∙ (λ j. no_txid weigh height id t k n e j || other_txid (is_some (coin_at weigh height t n)) id t k n e j)

differ : (a b : List ℕ) → b ≢ a → bytes_eq a b ≡ false
differ a b ne = by (bytes_eq a b) refl
  where
    by : (x : Bool) → bytes_eq a b ≡ x → x ≡ false
    by true e = absurd (ne (sym ((bytes_eq-Decides a b).0 e)))
    by false e = refl

-- where no transaction that waits has the txid, none of their coins stands at an output of it
pub free_of : (weigh : List ℕ → Option ℕ) (live : Transaction → Bool) (ts : List Transaction) (id : List ℕ) (k : ℕ) → All (λ (t : Transaction). txid_of t ≢ id) ts
    → list_any (same_outpoint (place_of id k)) (points (flat_map (made_in weigh None) (filter live ts))) ≡ false
unfolding made_in
free_of weigh live [] id k fresh = refl
free_of weigh live (t ∷ ts) id k fresh =
    by (live t) (free_of weigh live ts id k (All-tail (λ (t : Transaction). txid_of t ≢ id) t ts fresh))
  where
    rest : List Transaction
    rest = filter live ts

    by : (b : Bool) → list_any (same_outpoint (place_of id k)) (points (flat_map (made_in weigh None) rest)) ≡ false → list_any (same_outpoint (place_of id k)) (points (flat_map (made_in weigh None) (cond b (t ∷ rest) rest))) ≡ false
    by false e = e
    by true e =
        ap (list_any (same_outpoint (place_of id k))) (map-append (λ (m : Made). m.coin.coin) (made_in weigh None t) (flat_map (made_in weigh None) rest))
        ∙ list_any-append (same_outpoint (place_of id k)) (points (made_in weigh None t)) (points (flat_map (made_in weigh None) rest))
        ∙ (λ j. no_txid weigh None id t k (length t.outputs) (differ id (txid_of t) (All-head (λ (t : Transaction). txid_of t ≢ id) t ts fresh)) j || e j)

-- ---- whether they are too many

or_none : (a : Option BookFault) → option_or a None ≡ a
or_none None = refl
or_none (Some e) = refl

last_one : (n : ℕ) → cond (nat_lt n 100_000) None (Some Full) ≡ full_at (n + 1)
last_one n = by (nat_lt n 100_000) refl
  where
    by : (b : Bool) → nat_lt n 100_000 ≡ b → cond b None (Some Full) ≡ full_at (n + 1)
    by true e = let lt = ltb-true n 100_000 e in sym (room_for (n + 1) (omega arith))
    by false e = let le = ltb-false n 100_000 e in sym (no_room_for (n + 1) (omega arith))

one_more : (os : List OutPoint) (o : OutPoint) → list_any (same_outpoint o) os ≡ false → option_or (full_at (length os)) (fault_behind os (o ∷ [])) ≡ full_at (length os + 1)
one_more os o fresh = by (nat_lt 100_000 (length os)) refl
  where
    by : (b : Bool) → nat_lt 100_000 (length os) ≡ b → option_or (cond b (Some Full) None) (fault_behind os (o ∷ [])) ≡ full_at (length os + 1)
    by true e = let lt = ltb-true 100_000 (length os) e in sym (no_room_for (length os + 1) (omega arith))
    by false e = fault_one os o ∙ ap (λ (b : Bool). cond b (Some (RepeatCoin o)) (cond (nat_lt (length os) 100_000) None (Some Full))) fresh ∙ last_one (length os)

step : (b : Bool) (t : Transaction) (n : ℕ) (os : List OutPoint) → list_any (same_outpoint (place_of (txid_of t) n)) os ≡ false → option_or (full_at (length os)) (fault_behind os (spot b t n)) ≡ full_at (length os + length (spot b t n))
unfolding fault_behind
step true t n os fresh = one_more os (place_of (txid_of t) n) fresh
step false t n os fresh = or_none (full_at (length os)) ∙ ap full_at (omega arith)

own_below : (weigh : List ℕ → Option ℕ) (height : Option ℕ) (t : Transaction) (n : ℕ) (before : List OutPoint) → ((k : ℕ) → list_any (same_outpoint (place_of (txid_of t) k)) before ≡ false) → length before ≤ 100_000
    → fault_behind before (points (coins_below (coin_at weigh height t) n)) ≡ full_at (length before + length (points (coins_below (coin_at weigh height t) n)))
unfolding fault_behind coins_below
own_below weigh height t zero before free le = sym (room_for (length before + 0) (omega arith))
own_below weigh height t (suc n) before free le =
    let front = points (coins_below (coin_at weigh height t) n) in
    let b = is_some (coin_at weigh height t n) in
    let count : length before + length front ≡ length (before ++ front) = sym (length-append before front) in
    let all : length (before ++ front) + length (spot b t n) ≡ length before + length (front ++ spot b t n) = omega (arith, length-append before front, length-append front (spot b t n)) in
    let new : list_any (same_outpoint (place_of (txid_of t) n)) (before ++ front) ≡ false =
    list_any-append (same_outpoint (place_of (txid_of t) n)) before front ∙ (λ j. free n j || no_index weigh height t n n (omega arith) j)
    in
    ap (fault_behind before) (spots_more weigh height t n)
    ∙ fault_more before front (spot b t n)
    ∙ ap (λ (r : Option BookFault). option_or r (fault_behind (before ++ front) (spot b t n))) (own_below weigh height t n before free le ∙ ap full_at count)
    ∙ step b t n (before ++ front) new
    ∙ ap full_at (all ∙ ap (λ (os : List OutPoint). length before + length os) (sym (spots_more weigh height t n)))

-- the coins of one transaction after others that aren't of its txid break no rule but the limit
pub own_fault : (weigh : List ℕ → Option ℕ) (height : Option ℕ) (t : Transaction) (before : List OutPoint) → ((k : ℕ) → list_any (same_outpoint (place_of (txid_of t) k)) before ≡ false) → length before ≤ 100_000
    → fault_behind before (points (made_in weigh height t)) ≡ full_at (length before + length (points (made_in weigh height t)))
unfolding made_in
own_fault weigh height t before free le = own_below weigh height t (length t.outputs) before free le

-- ---- the coins of a transaction that waits beside others

held_all : (held : List Held) → map held_point held ≡ points (map held_made held)
held_all [] = refl
held_all (h ∷ held) = ap (λ (os : List OutPoint). held_point h ∷ os) (held_all held)

pub beside_made : (weigh : List ℕ → Option ℕ) (heights : List (List ℕ × ℕ)) (t : Transaction) (es new : List (OutPoint × Held)) (held : List Held) → is_some (lookup (bytes_eq (txid_of t)) heights) ≡ false
    → es ≡ [] → map held_made held ≡ made_in weigh None t → new ≡ es ++ map entry_of held → HoldsCoins (made_waiting weigh heights t) new
beside_made weigh heights t es new held known none made more =
    subst (λ (b : Bool). HoldsCoins (cond b [] (made_in weigh None t)) new) (sym known)
    (coins_more [] (made_in weigh None t) es new held (record { made_is = ap (map made_at) none; keys_are = ap (λ (l : List (OutPoint × Held)). keys_of l) none }) made more)

pub beside_fault : (weigh : List ℕ → Option ℕ) (heights : List (List ℕ × ℕ)) (t : Transaction) (ps es : List (OutPoint × Held)) (held : List Held) → is_some (lookup (bytes_eq (txid_of t)) heights) ≡ false
    → es ≡ [] → map held_made held ≡ made_in weigh None t → fault_behind (keys_of ps) (points (made_waiting weigh heights t)) ≡ fault_behind (keys_of ps ++ keys_of es) (map held_point held)
beside_fault weigh heights t ps es held known none made =
    let front : keys_of ps ++ keys_of es ≡ keys_of ps = ap (λ (l : List (OutPoint × Held)). keys_of ps ++ keys_of l) none ∙ append-nil (keys_of ps) in
    ap (λ (b : Bool). fault_behind (keys_of ps) (points (cond b [] (made_in weigh None t)))) known
    ∙ sym (λ k. fault_behind (front k) ((held_all held ∙ ap points made) k))

pub beside_none : (weigh : List ℕ → Option ℕ) (heights : List (List ℕ × ℕ)) (t : Transaction) (before : List OutPoint) → is_some (lookup (bytes_eq (txid_of t)) heights) ≡ true → fault_behind before (points (made_waiting weigh heights t)) ≡ None
unfolding fault_behind
beside_none weigh heights t before known = ap (λ (b : Bool). fault_behind before (points (cond b [] (made_in weigh None t)))) known
