-- The fault that is reported is that of the first coin at which something is wrong.
use Rattle.std.proofs.Common.{◌≡◌, ◌≢◌, ◌∙◌, ◌⊎◌, inl, inr, ℕ, suc, ◌+◌, ◌<◌, ◌≤◌, Bool, true, false, cond, List, [], ◌∷◌, ◌++◌, length, take, get_or, Option, Some, None, Contains, refl, sym, ap, subst, append_assoc, arith, slice_get}
use Rattle.std.specs.Prelude.{nat_lt, ◌↔◌}
use Rattle.std.specs.List.{list_any}
use Rattle.std.specs.Option.{option_or}
use Rattle.std.proofs.lemmas.Bool.{cases_order, ltb-false, ltb-true}
use Rattle.std.proofs.lemmas.List.{get_or-take, length-append, length-map, length-take, length-take-le}
use Rattle.std.proofs.lemmas.List.Folds.{Any-from_list_any}
use Rattle.std.proofs.lemmas.List.Quantifiers.{all_pairs_push}
use Rattle.std.proofs.lemmas.Option.{get_or_from_slice_get, none-some, same_Some, slice_get_within}
use Rattle.fund_base.specs.Outpoints.{same_outpoint}
use Rattle.fund_base.specs.declared.outpoint.OutPoint.{OutPoint}
use Rattle.fund_base.proofs.OutpointLaws.{same_outpoint-Decides}
use Rattle.coin_book.specs.Coins.{Made, coins_of, confirmed_made, made_of, pending_made}
use Rattle.coin_book.specs.Faults.{fault_behind, fault_of, full_at, points}
use Rattle.coin_book.specs.History.{History}
use Rattle.coin_book.specs.Repeats.{AreApart, IsFirstRepeat}
use Rattle.coin_book.specs.declared.fault.BookFault.{BookFault}
use Rattle.coin_book.specs.declared.fault.BookFault.TheVariants.{Full, Memory, RepeatCoin}
use Rattle.coin_book.proofs.FaultSteps.{fault_first, fault_rest, no_room_for}
use Rattle.coin_book.proofs.RepeatSteps.{apart_behind, coin_count, other}

-- ---- where two lists meet

front : {X : Type 0} (xs ys : List X) → take (length xs) (xs ++ ys) ≡ xs
front [] ys = refl
front {X = X} (x ∷ xs) ys = ap (λ (l : List X). x ∷ l) (front xs ys)

one_more : {X : Type 0} (xs : List X) (x : X) (ys : List X) → take (suc (length xs)) (xs ++ x ∷ ys) ≡ xs ++ x ∷ []
one_more [] x ys = refl
one_more {X = X} (z ∷ xs) x ys = ap (λ (l : List X). z ∷ l) (one_more xs x ys)

seam : {X : Type 0} (xs : List X) (x : X) (ys : List X) → slice_get (xs ++ x ∷ ys) (length xs) ≡ Some x
seam [] x ys = refl
seam (z ∷ xs) x ys = seam xs x ys

found : (before : List OutPoint) (o : OutPoint) → list_any (same_outpoint o) before ≡ true → Contains before o
found before o e = let a = Any-from_list_any (same_outpoint o) before e in subst (Contains before) (sym ((same_outpoint-Decides o a.1).0 a.4)) (a.0, a.2, a.3)

-- ---- what a fault of outpoints says

abbrev Shows : List OutPoint → BookFault → Type 0
Shows os (RepeatCoin o) = IsFirstRepeat os o
Shows os Full = (100_000 < length os) × AreApart (take 100_001 os)
Shows os Memory = ⊥

shown : (before os : List OutPoint) → length before ≤ 100_000 → AreApart before → (e : BookFault) → fault_behind before os ≡ Some e → Shows (before ++ os) e
unfolding fault_behind
shown before [] le apart e is = absurd (none-some e is)
shown before (o ∷ os) le apart e is =
    by (list_any (same_outpoint o) before) (nat_lt (length before) 100_000) refl refl is
    (λ room fresh rest. let n = length-append before (o ∷ []) in let lt = ltb-true (length before) 100_000 room in
    shown (before ++ o ∷ []) os (omega arith) (all_pairs_push (λ (a b : OutPoint). a ≢ b) before o apart (other before o fresh)) e rest)
  where
    full : list_any (same_outpoint o) before ≡ false → nat_lt (length before) 100_000 ≡ false → Shows (before ++ o ∷ os) Full
    full fresh room =
        let ge = ltb-false (length before) 100_000 room in
        let n = length-append before (o ∷ os) in
        let same : 100_001 ≡ suc (length before) = omega arith in
        (omega arith, subst AreApart (sym (ap (λ (k : ℕ). take k (before ++ o ∷ os)) same ∙ one_more before o os)) (all_pairs_push (λ (a b : OutPoint). a ≢ b) before o apart (other before o fresh)))

    by : (b room : Bool) → list_any (same_outpoint o) before ≡ b → nat_lt (length before) 100_000 ≡ room → cond b (Some (RepeatCoin o)) (cond room (fault_behind (before ++ o ∷ []) os) (Some Full)) ≡ Some e
        → (nat_lt (length before) 100_000 ≡ true → list_any (same_outpoint o) before ≡ false → fault_behind (before ++ o ∷ []) os ≡ Some e → Shows ((before ++ o ∷ []) ++ os) e) → Shows (before ++ o ∷ os) e
    by true room known r is next =
        subst (Shows (before ++ o ∷ os)) (same_Some (RepeatCoin o) e is) (record {
          place = length before;
          stands = seam before o os;
          again = subst (λ (l : List OutPoint). Contains l o) (sym (front before (o ∷ os))) (found before o known);
          first = subst AreApart (sym (front before (o ∷ os))) apart;
          within = le;
        })
    by false true fresh r is next = subst (λ (l : List OutPoint). Shows l e) (append_assoc before (o ∷ []) os) (next r fresh is)
    by false false fresh r is next = subst (Shows (before ++ o ∷ os)) (same_Some Full e is) (full fresh r)

none_apart : AreApart []
none_apart = λ i j d lt in_range. absurd (omega arith)

told : (os : List OutPoint) (e : BookFault) → fault_behind [] os ≡ Some e → Shows os e
told os e is = shown [] os (omega arith) none_apart e is

-- ---- where it comes again, no more are apart

clash : (os : List OutPoint) (o : OutPoint) (r : IsFirstRepeat os o) (xs : List OutPoint) → ((i : ℕ) → i ≤ r.place → get_or xs i o ≡ get_or os i o) → r.place < length xs → AreApart xs → ⊥
clash os o r xs same lt apart =
    let in_os = slice_get_within os r.place o r.stands in
    let n = length-take-le r.place os (omega arith) in
    let b = r.again.1 in
    let i : r.again.0 < r.place = omega arith in
    apart r.again.0 r.place o i lt
    (same r.again.0 (omega arith) ∙ sym (get_or-take r.place os r.again.0 o i) ∙ r.again.2 ∙ sym (same r.place (omega arith) ∙ get_or_from_slice_get os r.place o o r.stands))

clash_front : (os : List OutPoint) (o : OutPoint) (r : IsFirstRepeat os o) (m : ℕ) → r.place < m → AreApart (take m os) → ⊥
clash_front os o r m lt apart =
    let in_os = slice_get_within os r.place o r.stands in
    let n = length-take m os in
    clash os o r (take m os) (λ i le. get_or-take m os i o (omega arith)) (omega arith) apart

one_repeat : (os : List OutPoint) (o p : OutPoint) → IsFirstRepeat os o → IsFirstRepeat os p → o ≡ p
one_repeat os o p r s = by (cases_order r.place s.place)
  where
    by : (r.place ≡ s.place) ⊎ ((r.place < s.place) ⊎ (s.place < r.place)) → o ≡ p
    by (inl e) = same_Some o p (sym r.stands ∙ ap (slice_get os) e ∙ s.stands)
    by (inr (inl lt)) = absurd (clash_front os o r s.place lt s.first)
    by (inr (inr lt)) = absurd (clash_front os p s r.place lt r.first)

repeat_behind : (os : List OutPoint) (o : OutPoint) → IsFirstRepeat os o → fault_behind [] os ≡ Some (RepeatCoin o)
repeat_behind os o r = by (fault_behind [] os) refl
  where
    tell : (e : BookFault) → Shows os e → Some e ≡ Some (RepeatCoin o)
    tell (RepeatCoin p) s = ap (λ (q : OutPoint). Some (RepeatCoin q)) (one_repeat os p o s r)
    tell Full s = let le = r.within in absurd (clash_front os o r 100_001 (omega arith) s.1)
    tell Memory s = absurd s

    by : (f : Option BookFault) → fault_behind [] os ≡ f → f ≡ Some (RepeatCoin o)
    by None e = absurd (clash os o r os (λ i le. refl) (slice_get_within os r.place o r.stands) (apart_behind [] os none_apart e))
    by (Some f) e = tell f (told os f e)

apart_front : (os : List OutPoint) (m : ℕ) → AreApart os → AreApart (take m os)
apart_front os m h i j d lt in_range =
    let n = length-take m os in
    λ same. h i j d lt (omega arith) (sym (get_or-take m os i d (omega arith)) ∙ same ∙ get_or-take m os j d (omega arith))

-- ---- the fault of a history

-- it is that of the confirmed coins, or there are too many coins
split : (h : History) (e : BookFault) → fault_of h ≡ Some e → (fault_behind [] (points (confirmed_made h)) ≡ Some e) ⊎ ((fault_behind [] (points (confirmed_made h)) ≡ None) × (e ≡ Full) × (100_000 < length (made_of h)))
split h e is = by (fault_behind [] (points (confirmed_made h))) refl is
  where
    many : (b : Bool) → nat_lt 100_000 (length (made_of h)) ≡ b → cond b (Some Full) None ≡ Some e → (e ≡ Full) × (100_000 < length (made_of h))
    many true lt is = (sym (same_Some Full e is), ltb-true 100_000 (length (made_of h)) lt)
    many false lt is = absurd (none-some e is)

    by : (f : Option BookFault) → fault_behind [] (points (confirmed_made h)) ≡ f → option_or f (full_at (length (made_of h))) ≡ Some e
        → (f ≡ Some e) ⊎ ((f ≡ None) × (e ≡ Full) × (100_000 < length (made_of h)))
    by (Some f) at is = inl is
    by None at is = let m = many (nat_lt 100_000 (length (made_of h))) refl is in inr (refl, m.0, m.1)

pub repeat_is : (h : History) (o : OutPoint) → (fault_of h ≡ Some (RepeatCoin o)) ↔ IsFirstRepeat (points (confirmed_made h)) o
repeat_is h o = (λ is. there (split h (RepeatCoin o) is), λ r. fault_first h (RepeatCoin o) (repeat_behind (points (confirmed_made h)) o r))
  where
    there : (fault_behind [] (points (confirmed_made h)) ≡ Some (RepeatCoin o)) ⊎ ((fault_behind [] (points (confirmed_made h)) ≡ None) × (RepeatCoin o ≡ Full) × (100_000 < length (made_of h))) → IsFirstRepeat (points (confirmed_made h)) o
    there (inl is) = told (points (confirmed_made h)) (RepeatCoin o) is
    there (inr f) = let e = f.1 in absurd cc

pub never_memory : (h : History) → fault_of h ≢ Some Memory
never_memory h is = by (split h Memory is)
  where
    by : (fault_behind [] (points (confirmed_made h)) ≡ Some Memory) ⊎ ((fault_behind [] (points (confirmed_made h)) ≡ None) × (Memory ≡ Full) × (100_000 < length (made_of h))) → ⊥
    by (inl is) = told (points (confirmed_made h)) Memory is
    by (inr f) = let e = f.1 in absurd cc

pub full_is : (h : History) → (fault_of h ≡ Some Full) ↔ ((100_000 < length (coins_of h)) × AreApart (take 100_001 (points (confirmed_made h))))
full_is h = (λ is. there (split h Full is), λ f. back f.0 f.1)
  where
    long : length (points (confirmed_made h)) ≡ length (confirmed_made h)
    long = length-map (confirmed_made h) (λ (m : Made). m.coin.coin)

    all : length (coins_of h) ≡ length (made_of h)
    all = length-map (made_of h) (λ (m : Made). m.coin)

    there : (fault_behind [] (points (confirmed_made h)) ≡ Some Full) ⊎ ((fault_behind [] (points (confirmed_made h)) ≡ None) × (Full ≡ Full) × (100_000 < length (made_of h)))
        → (100_000 < length (coins_of h)) × AreApart (take 100_001 (points (confirmed_made h)))
    there (inl is) =
        let s = told (points (confirmed_made h)) Full is in
        let n = coin_count h in
        let m = long in
        let lt = s.0 in
        (omega arith, s.1)
    there (inr f) =
        let n = all in
        let lt = f.2 in
        (omega arith, apart_front (points (confirmed_made h)) 100_001 (apart_behind [] (points (confirmed_made h)) none_apart f.0))

    back : 100_000 < length (coins_of h) → AreApart (take 100_001 (points (confirmed_made h))) → fault_of h ≡ Some Full
    back lt apart = by (fault_behind [] (points (confirmed_made h))) refl
      where
        tell : (e : BookFault) → fault_behind [] (points (confirmed_made h)) ≡ Some e → Shows (points (confirmed_made h)) e → fault_of h ≡ Some Full
        tell (RepeatCoin p) is s = let le = s.within in absurd (clash_front (points (confirmed_made h)) p s 100_001 (omega arith) apart)
        tell Full is s = fault_first h Full is
        tell Memory is s = absurd s

        by : (f : Option BookFault) → fault_behind [] (points (confirmed_made h)) ≡ f → fault_of h ≡ Some Full
        by None e = let n = coin_count h in fault_rest h e ∙ no_room_for (length (confirmed_made h) + length (pending_made h)) (omega arith)
        by (Some f) e = tell f e (told (points (confirmed_made h)) f e)
