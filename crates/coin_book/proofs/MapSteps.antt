-- Entries of the maps, one put or added at a time.
use Rattle.std.proofs.Common.{◌≡◌, ◌∙◌, ◌+◌, arith, length, take, Bool, true, false, cond, ◌||◌, List, [], ◌∷◌, ◌++◌, map, Option, Some, None, refl, sym, ap, append_assoc, true≢false}
use Rattle.std.specs.Prelude.{is_some, nat_lt}
use Rattle.std.specs.List.{list_any}
use Rattle.std.specs.Map.{keys_of, lookup}
use Rattle.std.specs.Option.{option_or}
use Rattle.std.proofs.lemmas.List.{append-nil, length-append, length-map, map-append}
use Rattle.std.proofs.Math.Seq.{take-append_seam}
use Rattle.std.proofs.lemmas.List.Folds.{list_any-append}
use Rattle.std.proofs.lemmas.Map.Made.{is_some-lookup}
use Rattle.fund_base.specs.Outpoints.{same_outpoint}
use Rattle.fund_base.specs.declared.outpoint.OutPoint.{OutPoint}
use Rattle.coin_book.specs.Faults.{fault_behind}
use Rattle.coin_book.specs.Merging.{StopsShort, entry_of, held_point}
use Rattle.coin_book.specs.declared.fault.BookFault.{BookFault}
use Rattle.coin_book.specs.declared.fault.BookFault.TheVariants.{Full, RepeatCoin}
use Rattle.coin_book.specs.declared.held.Held.{Held}

-- ---- the first fault

pub fault_one : (before : List OutPoint) (o : OutPoint) → fault_behind before (o ∷ []) ≡ cond (list_any (same_outpoint o) before) (Some (RepeatCoin o)) (cond (nat_lt (length before) 100_000) None (Some Full))
unfolding fault_behind
fault_one before o = refl

pub fault_more : (before xs ys : List OutPoint) → fault_behind before (xs ++ ys) ≡ option_or (fault_behind before xs) (fault_behind (before ++ xs) ys)
unfolding fault_behind
fault_more before [] ys = ap (λ (b : List OutPoint). fault_behind b ys) (sym (append-nil before))
fault_more before (x ∷ xs) ys =
    by (list_any (same_outpoint x) before) (nat_lt (length before) 100_000) (fault_behind (before ++ x ∷ []) (xs ++ ys)) (fault_behind (before ++ x ∷ []) xs) (fault_behind (before ++ x ∷ xs) ys)
    (fault_more (before ++ x ∷ []) xs ys ∙ ap (λ (b : List OutPoint). option_or (fault_behind (before ++ x ∷ []) xs) (fault_behind b ys)) (append_assoc before (x ∷ []) xs))
  where
    by : (b room : Bool) (whole first second : Option BookFault) → whole ≡ option_or first second
        → cond b (Some (RepeatCoin x)) (cond room whole (Some Full)) ≡ option_or (cond b (Some (RepeatCoin x)) (cond room first (Some Full))) second
    by true room whole first second e = refl
    by false true whole first second e = e
    by false false whole first second e = refl

-- the entries of a map are as many as its keys
pub key_count : {X : Type 0} (es : List (OutPoint × X)) → length (keys_of es) ≡ length es
key_count es = length-map es (λ e. e.0)

-- the fault of one coin after those of two maps
pub fault_two : (base coins : List (OutPoint × Held)) (o p : OutPoint) (b room : Bool) → p ≡ o → b ≡ (list_any (same_outpoint p) (keys_of base) || list_any (same_outpoint p) (keys_of coins)) → room ≡ nat_lt (length base + length coins) 100_000
    → fault_behind (keys_of base ++ keys_of coins) (o ∷ []) ≡ cond b (Some (RepeatCoin o)) (cond room None (Some Full))
fault_two base coins o p b room is told left =
    let there = list_any-append (same_outpoint o) (keys_of base) (keys_of coins) ∙ ap (λ (q : OutPoint). list_any (same_outpoint q) (keys_of base) || list_any (same_outpoint q) (keys_of coins)) (sym is) ∙ sym told in
    let free = ap (λ n. nat_lt n 100_000) (length-append (keys_of base) (keys_of coins)) ∙ (λ k. nat_lt (key_count base k + key_count coins k) 100_000) ∙ sym left in
    fault_one (keys_of base ++ keys_of coins) o ∙ (λ k. cond (there k) (Some (RepeatCoin o)) (cond (free k) None (Some Full)))

-- the fault of one coin, by where its outpoint stands
pub fault_free : (base coins : List (OutPoint × Held)) (o p : OutPoint) → p ≡ o → list_any (same_outpoint p) (keys_of base) ≡ false → lookup (same_outpoint p) coins ≡ None → nat_lt (length base + length coins) 100_000 ≡ true
    → fault_behind (keys_of base ++ keys_of coins) (o ∷ []) ≡ None
fault_free base coins o p is apart none room =
    let gone : list_any (same_outpoint p) (keys_of coins) ≡ false = sym (is_some-lookup (same_outpoint p) coins) ∙ ap is_some none in
    fault_two base coins o p false true is (sym (λ k. apart k || gone k)) (sym room)

pub fault_before : (base coins : List (OutPoint × Held)) (o p : OutPoint) → p ≡ o → list_any (same_outpoint p) (keys_of base) ≡ true → fault_behind (keys_of base ++ keys_of coins) (o ∷ []) ≡ Some (RepeatCoin p)
fault_before base coins o p is there =
    fault_two base coins o p true (nat_lt (length base + length coins) 100_000) is (sym (ap (λ (b : Bool). b || list_any (same_outpoint p) (keys_of coins)) there)) refl
    ∙ ap (λ (q : OutPoint). Some (RepeatCoin q)) (sym is)

pub fault_beside : (base coins : List (OutPoint × Held)) (o p : OutPoint) → p ≡ o → list_any (same_outpoint p) (keys_of base) ≡ false → is_some (lookup (same_outpoint p) coins) ≡ true → fault_behind (keys_of base ++ keys_of coins) (o ∷ []) ≡ Some (RepeatCoin p)
fault_beside base coins o p is apart there =
    let here : list_any (same_outpoint p) (keys_of coins) ≡ true = sym (is_some-lookup (same_outpoint p) coins) ∙ there in
    fault_two base coins o p true (nat_lt (length base + length coins) 100_000) is (sym (λ k. apart k || here k)) refl
    ∙ ap (λ (q : OutPoint). Some (RepeatCoin q)) (sym is)

pub fault_full : (base coins : List (OutPoint × Held)) (o p : OutPoint) → p ≡ o → nat_lt (length base + length coins) 100_000 ≡ false
    → fault_behind (keys_of base ++ keys_of coins) (o ∷ []) ≡ Some (cond (list_any (same_outpoint p) (keys_of base) || list_any (same_outpoint p) (keys_of coins)) (RepeatCoin p) Full)
fault_full base coins o p is full =
    let there = list_any (same_outpoint p) (keys_of base) || list_any (same_outpoint p) (keys_of coins) in
    fault_two base coins o p there false is refl (sym full)
    ∙ ap (λ (q : OutPoint). cond there (Some (RepeatCoin q)) (Some Full)) (sym is)
    ∙ by there
  where
    by : (b : Bool) → cond b (Some (RepeatCoin p)) (Some Full) ≡ Some (cond b (RepeatCoin p) Full)
    by true = refl
    by false = refl

or_none : (a b : Bool) → (a || b) ≡ false → b ≡ false
or_none true b e = absurd (true≢false e)
or_none false b e = e

pub none_is : {X : Type 0} (o : Option X) → is_some o ≡ false → o ≡ None
none_is None e = refl
none_is (Some x) e = absurd (true≢false e)

-- an outpoint that stands in neither has no entry in the second
pub absent : {X : Type 0} (base : List OutPoint) (es : List (OutPoint × X)) (p : OutPoint) (b : Bool) → b ≡ false → b ≡ (list_any (same_outpoint p) base || list_any (same_outpoint p) (keys_of es)) → lookup (same_outpoint p) es ≡ None
absent base es p b gone told =
    none_is (lookup (same_outpoint p) es) (is_some-lookup (same_outpoint p) es ∙ or_none (list_any (same_outpoint p) base) (list_any (same_outpoint p) (keys_of es)) (sym told ∙ gone))

-- ---- coins one by one

entries_keys : (held : List Held) → map (λ (e : OutPoint × Held). e.0) (map entry_of held) ≡ map held_point held
entries_keys [] = refl
entries_keys (h ∷ held) = ap (λ (os : List OutPoint). held_point h ∷ os) (entries_keys held)

-- one coin more of those that are added
pub added_more : (old now new : List (OutPoint × Held)) (front : List Held) (one : Held) → now ≡ old ++ map entry_of front → new ≡ now ++ entry_of one ∷ [] → new ≡ old ++ map entry_of (front ++ one ∷ [])
added_more old now new front one was more =
    more ∙ ap (λ (es : List (OutPoint × Held)). es ++ entry_of one ∷ []) was ∙ append_assoc old (map entry_of front) (entry_of one ∷ []) ∙ ap (λ (es : List (OutPoint × Held)). old ++ es) (sym (map-append entry_of front (one ∷ [])))

-- the keys of the coins so far
keys_more : (old now : List (OutPoint × Held)) (front : List Held) → now ≡ old ++ map entry_of front → keys_of now ≡ keys_of old ++ map held_point front
keys_more old now front was = ap (λ (es : List (OutPoint × Held)). keys_of es) was ∙ map-append (λ (e : OutPoint × Held). e.0) old (map entry_of front) ∙ ap (λ (os : List OutPoint). keys_of old ++ os) (entries_keys front)

-- the first fault up to one coin more
pub fault_next : (base : List OutPoint) (old now : List (OutPoint × Held)) (front : List Held) (one : Held) (r : Option BookFault) → now ≡ old ++ map entry_of front → fault_behind (base ++ keys_of old) (map held_point front) ≡ None
    → fault_behind (base ++ keys_of now) (held_point one ∷ []) ≡ r → fault_behind (base ++ keys_of old) (map held_point (front ++ one ∷ [])) ≡ r
fault_next base old now front one r was fresh here =
    ap (fault_behind (base ++ keys_of old)) (map-append held_point front (one ∷ []))
    ∙ fault_more (base ++ keys_of old) (map held_point front) (held_point one ∷ [])
    ∙ (λ k. option_or (fresh k) (fault_behind (append_assoc base (keys_of old) (map held_point front) k) (held_point one ∷ [])))
    ∙ ap (λ (os : List OutPoint). fault_behind (base ++ os) (held_point one ∷ [])) (sym (keys_more old now front was))
    ∙ here

-- memory was short for this coin
pub stops_short : (base : List OutPoint) (old now new : List (OutPoint × Held)) (front rest all : List Held) (one : Held) → now ≡ old ++ map entry_of front → fault_behind (base ++ keys_of old) (map held_point front) ≡ None
    → (front ++ one ∷ []) ++ rest ≡ all → new ≡ now → fault_behind (base ++ keys_of now) (held_point one ∷ []) ≡ None → StopsShort (base ++ keys_of old) (map held_point all) (length old) (length new)
stops_short base old now new front rest all one was fresh whole same here =
    let up_to = map held_point (front ++ one ∷ []) in
    let size : length up_to ≡ length front + 1 = length-map (front ++ one ∷ []) held_point ∙ length-append front (one ∷ []) in
    let parts : map held_point all ≡ up_to ++ map held_point rest = ap (map held_point) (sym whole) ∙ map-append held_point (front ++ one ∷ []) rest in
    let many : length (map held_point all) ≡ length up_to + length (map held_point rest) = ap (λ (os : List OutPoint). length os) parts ∙ length-append up_to (map held_point rest) in
    record {
      added = length front;
      count = ap (λ (es : List (OutPoint × Held)). length es) (same ∙ was) ∙ length-append old (map entry_of front) ∙ ap (λ n. length old + n) (length-map front entry_of);
      place = omega arith;
      sound = (λ k. fault_behind (base ++ keys_of old) (take (sym size k) (parts k)))
          ∙ ap (fault_behind (base ++ keys_of old)) (take-append_seam up_to (map held_point rest))
          ∙ fault_next base old now front one None was fresh here;
    }

-- ---- a loop over values that are given one by one

pub whole_more : {X : Type 0} (front rest now : List X) (x : X) (all : List X) → now ≡ x ∷ rest → front ++ now ≡ all → (front ++ x ∷ []) ++ rest ≡ all
whole_more {X = X} front rest now x all is so_far = append_assoc front (x ∷ []) rest ∙ ap (λ (l : List X). front ++ l) (sym is) ∙ so_far

-- a fault among the first outpoints is the first among all
pub fault_among : (before xs ys : List OutPoint) (e : BookFault) → fault_behind before xs ≡ Some e → fault_behind before (xs ++ ys) ≡ Some e
fault_among before xs ys e here = fault_more before xs ys ∙ ap (λ (r : Option BookFault). option_or r (fault_behind (before ++ xs) ys)) here
