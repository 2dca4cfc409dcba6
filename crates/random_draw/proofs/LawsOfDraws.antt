-- What draws keep and find, in words of their own.
use Rattle.std.specs.Prelude.{◌≡◌, ℕ, zero, suc, ◌+◌, ◌-◌, ◌<◌, ◌≤◌, ◌⊎◌, ◌↔◌, List, [], ◌∷◌, ◌++◌, length, take, drop, get_or, max, Contains, All, Option, Some, None, nat_lt, nat_le, if◌then◌else◌}
use Rattle.std.proofs.Common.{arith, length-append, refl, sym, ap, subst, ◌∙◌, inl, inr}
use Rattle.std.proofs.lemmas.Bool.{cases_lt}
use Rattle.std.proofs.lemmas.Bool.Decides.{nat_tests}
use Rattle.std.proofs.lemmas.List.{take-append-le, take_all, get_or-take, get_or-drop, length-drop}
use Rattle.std.proofs.lemmas.List.Elements.{All-cons, All-head, All-tail}
use Rattle.std.proofs.lemmas.Grind.{get_or_default_zero}
use Rattle.fund_base.proofs.Lists.{in_tail, cons_cases}
use Rattle.pick_problem.specs.Pool.{item_at}
use Rattle.pick_problem.specs.Problem.{PlainProblem, IsProblem, Rising, value_of, weight_of}
use Rattle.pick_problem.proofs.Deciding.{if_cases}
use Rattle.pick_problem.proofs.SumLaws.{place_below}
use Rattle.random_draw.specs.Order.{order_of}
use Rattle.random_draw.specs.Draw.{with_place, sooner, first_dropped, one_less, trimmed, kept_with, found_from, draw_of}
use Rattle.random_draw.specs.Laws.{kept_after, GoesFirst, StaysOf, Finds}
use Rattle.random_draw.proofs.Sorting.{place_first, place_later}
use Rattle.random_draw.proofs.Trimming.{one_less_last, rising_front, trimmed_light, trimmed_heavy, values_fall}
use Rattle.random_draw.proofs.Fresh.{last_of}

here : (x : ℕ) (xs : List ℕ) → Contains (x ∷ xs) x
here x xs = (0, omega arith, refl)

goes_before : (p : PlainProblem) (a b c : ℕ) → GoesFirst p a b → GoesFirst p b c → GoesFirst p a c
goes_before p a b c (inl h) (inl k) = inl (omega arith)
goes_before p a b c (inl h) (inr k) = inl (omega (arith, k.0))
goes_before p a b c (inr h) (inl k) = inl (omega (arith, h.0))
goes_before p a b c (inr h) (inr k) = inr (omega (arith, h.0, k.0), omega (arith, h.1, k.1))

-- the sooner of two is one of them, and goes before the other
pub record IsSooner (p : PlainProblem) (j k s : ℕ) : Type 0 where
  pub one : (s ≡ j) ⊎ (s ≡ k)
  pub first : (j ≡ s) ⊎ GoesFirst p s j
  pub second : (k ≡ s) ⊎ GoesFirst p s k

sooner_is : (p : PlainProblem) (j k : ℕ) → IsSooner p j k (sooner p j k)
unfolding sooner
sooner_is p j k =
    let v : ℕ = (item_at p.items j).value in
    let w : ℕ = (item_at p.items k).value in
    if_cases (λ (s : ℕ). IsSooner p j k s) (nat_lt v w) j (if nat_lt w v then k else max j k)
    (λ less. record { one = inl refl; first = inl refl; second = inr (inl (grind (arith, nat_tests))) })
    (λ no. if_cases (λ (s : ℕ). IsSooner p j k s) (nat_lt w v) k (max j k)
    (λ more. record { one = inr refl; first = inr (inl (grind (arith, nat_tests))); second = inl refl })
    (λ not_more.
    let a : w ≤ v = grind (arith, nat_tests) in
    let b : v ≤ w = grind (arith, nat_tests) in
    elim (cases_lt j k) [
      | inl l ↦ let e : max j k ≡ k = omega arith in rw e (record { one = inr refl; first = inr (inr (omega arith, l)); second = inl refl })
      | inr g ↦
          elim (cases_lt k j) [
            | inl l ↦ let e : max j k ≡ j = omega arith in rw e (record { one = inl refl; first = inl refl; second = inr (inr (omega arith, l)) })
            | inr f ↦ let e : max j k ≡ j = omega arith in rw e (record { one = inl refl; first = inl refl; second = inl (omega arith) })
          ]
    ]))

pub first_among : (p : PlainProblem) (j : ℕ) (js : List ℕ) → Contains (j ∷ js) (first_dropped p j js)
unfolding first_dropped
first_among p j [] = here j []
first_among p j (k ∷ ks) =
    let s : ℕ = sooner p j k in
    elim (cons_cases (sooner p j k) ks (first_dropped p (sooner p j k) ks) (first_among p (sooner p j k) ks)) [
      | inr r ↦ in_tail j (k ∷ ks) (first_dropped p (sooner p j k) ks) (in_tail k ks (first_dropped p (sooner p j k) ks) r)
      | inl e ↦
          elim (sooner_is p j k).one [
            | inl f ↦ subst (λ (x : ℕ). Contains (j ∷ k ∷ ks) x) (sym f ∙ e) (here j (k ∷ ks))
            | inr f ↦ subst (λ (x : ℕ). Contains (j ∷ k ∷ ks) x) (sym f ∙ e) (in_tail j (k ∷ ks) k (here k ks))
          ]
    ]

-- what goes before s goes before what s goes before
before_both : (p : PlainProblem) (d s x : ℕ) → (s ≡ d) ⊎ GoesFirst p d s → (x ≡ s) ⊎ GoesFirst p s x → (x ≡ d) ⊎ GoesFirst p d x
before_both p d s x (inl e) (inl f) = inl (f ∙ e)
before_both p d s x (inl e) (inr g) = inr (subst (λ (y : ℕ). GoesFirst p y x) e g)
before_both p d s x (inr h) (inl f) = inr (subst (λ (y : ℕ). GoesFirst p d y) (sym f) h)
before_both p d s x (inr h) (inr g) = inr (goes_before p d s x h g)

pub first_before : (p : PlainProblem) (j : ℕ) (js : List ℕ) → All (λ r. (r ≡ first_dropped p j js) ⊎ GoesFirst p (first_dropped p j js) r) (j ∷ js)
unfolding first_dropped
first_before p j [] = All-cons (λ r. (r ≡ j) ⊎ GoesFirst p j r) j [] (inl refl) (λ k d l. absurd (omega arith))
first_before p j (k ∷ ks) =
    let s : ℕ = sooner p j k in
    let d : ℕ = first_dropped p (sooner p j k) ks in
    let P : ℕ → Type 0 = λ (r : ℕ). (r ≡ first_dropped p (sooner p j k) ks) ⊎ GoesFirst p (first_dropped p (sooner p j k) ks) r in
    let all : All P (sooner p j k ∷ ks) = first_before p (sooner p j k) ks in
    let top : P (sooner p j k) = All-head P (sooner p j k) ks all in
    All-cons P j (k ∷ ks) (before_both p (first_dropped p (sooner p j k) ks) (sooner p j k) j top (sooner_is p j k).first)
    (All-cons P k ks (before_both p (first_dropped p (sooner p j k) ks) (sooner p j k) k top (sooner_is p j k).second) (All-tail P (sooner p j k) ks all))

joined : (j : ℕ) (kept : List ℕ) (k : ℕ) → Contains (with_place j kept) k → (k ≡ j) ⊎ Contains kept k
unfolding with_place
joined j [] k h = elim (cons_cases j [] k h) [ inl e ↦ inl (sym e) | inr n ↦ inr n ]
joined j (x ∷ xs) k h =
    elim (cases_lt j x) [
      | inl l ↦ elim (cons_cases j (x ∷ xs) k (rw (place_first j x xs l) at h)) [ inl e ↦ inl (sym e) | inr n ↦ inr n ]
      | inr g ↦
          elim (cons_cases x (with_place j xs) k (rw (place_later j x xs g) at h)) [
            | inl e ↦ inr (subst (λ (y : ℕ). Contains (x ∷ xs) y) e (here x xs))
            | inr n ↦ elim (joined j xs k n) [ inl e ↦ inl e | inr m ↦ inr (in_tail x xs k m) ]
          ]
    ]

added_one : (j : ℕ) (kept : List ℕ) → Contains (with_place j kept) j
unfolding with_place
added_one j [] = here j []
added_one j (x ∷ xs) =
    elim (cases_lt j x) [
      | inl l ↦ rw (place_first j x xs l) (here j (x ∷ xs))
      | inr g ↦ rw (place_later j x xs g) (in_tail x (with_place j xs) j (added_one j xs))
    ]

still_there : (j : ℕ) (kept : List ℕ) (k : ℕ) → Contains kept k → Contains (with_place j kept) k
unfolding with_place
still_there j [] k h = in_tail j [] k h
still_there j (x ∷ xs) k h =
    elim (cases_lt j x) [
      | inl l ↦ rw (place_first j x xs l) (in_tail j (x ∷ xs) k h)
      | inr g ↦
          rw (place_later j x xs g)
          (elim (cons_cases x xs k h) [
            | inl e ↦ subst (λ (y : ℕ). Contains (x ∷ with_place j xs) y) e (here x (with_place j xs))
            | inr n ↦ in_tail x (with_place j xs) k (still_there j xs k n)
          ])
    ]

pub place_among : (kept : List ℕ) (j k : ℕ) → (Contains (with_place j kept) k ↔ ((k ≡ j) ⊎ Contains kept k))
place_among kept j k = (
  λ h. joined j kept k h,
  λ h. elim h [ inl e ↦ subst (λ (y : ℕ). Contains (with_place j kept) y) (sym e) (added_one j kept) | inr n ↦ still_there j kept k n ],
)

-- the first places of a list that are light enough, and no longer ones
pub record IsFront (p : PlainProblem) (all stays : List ℕ) : Type 0 where
  pub light : weight_of p stays ≤ p.most_weight
  pub first : stays ≡ take (length stays) all
  pub within : length stays ≤ length all
  pub longest : (n : ℕ) → length stays < n → n ≤ length all → p.most_weight < weight_of p (take n all)

trimmed_front : (p : PlainProblem) → IsProblem p → (n : ℕ) (ks : List ℕ) → length ks ≤ n → Rising (length p.items) 0 ks → IsFront p ks (trimmed p n ks)
trimmed_front p is n [] few h = rw (trimmed_light p n [] (omega arith)) (record { light = omega arith; first = refl; within = omega arith; longest = λ m a b. absurd (omega arith) })
trimmed_front p is zero (k ∷ ks) few h = absurd (omega arith)
trimmed_front p is (suc n) (k ∷ ks) few h =
    elim (cases_lt p.most_weight (weight_of p (k ∷ ks))) [
      | inr light ↦
          rw (trimmed_light p (suc n) (k ∷ ks) light)
          (record { light = light; first = sym (take_all (length (k ∷ ks)) (k ∷ ks) (omega arith)); within = omega arith; longest = λ m a b. absurd (omega arith) })
      | inl heavy ↦
          rw (trimmed_heavy p n (k ∷ ks) heavy)
          (elim (last_of (k ∷ ks)) [
            | inl e ↦ absurd (cc)
            | inr l ↦
                let rising : Rising (length p.items) 0 (l.0 ++ l.1 ∷ []) = subst (λ (r : List ℕ). Rising (length p.items) 0 r) l.2 h in
                let less : one_less p (k ∷ ks) ≡ l.0 = ap (one_less p) l.2 ∙ one_less_last p is l.0 l.1 rising in
                let few_less : length (k ∷ ks) ≡ length l.0 + 1 = ap length l.2 ∙ length-append l.0 (l.1 ∷ []) in
                let rest : IsFront p l.0 (trimmed p n l.0) = trimmed_front p is n l.0 (omega (arith, few_less)) (rising_front (length p.items) 0 l.0 l.1 rising) in
                let begins : (m : ℕ) → m ≤ length l.0 → take m (k ∷ ks) ≡ take m l.0 = λ (m : ℕ) (b : m ≤ length l.0). ap (λ (r : List ℕ). take m r) l.2 ∙ take-append-le m l.0 (l.1 ∷ []) b in
                rw less
                (record {
                  light = rest.light;
                  first = rest.first ∙ sym (begins (length (trimmed p n l.0)) rest.within);
                  within = omega (arith, rest.within, few_less);
                  longest = λ m a b.
                      elim (cases_lt (length l.0) m) [
                        | inl more ↦ let whole : take m (k ∷ ks) ≡ k ∷ ks = take_all m (k ∷ ks) (omega (arith, few_less)) in rw whole heavy
                        | inr short ↦ rw (begins m short) (rest.longest m a short)
                      ];
                })
          ])
    ]

rising_at : (n t : ℕ) (q : List ℕ) (i j : ℕ) → Rising n t q → i < j → j < length q → get_or q i 0 < get_or q j 0
rising_at n t [] i j h a b = absurd (omega arith)
rising_at n t (x ∷ q) i zero h a b = absurd (omega arith)
rising_at n t (x ∷ q) zero (suc j) h a b = let r : x + 1 ≤ get_or q j 0 = rising_from n (x + 1) q j h.2 (omega arith) in omega (arith, r)
  where
    rising_from : (n t : ℕ) (q : List ℕ) (j : ℕ) → Rising n t q → j < length q → t ≤ get_or q j 0
    rising_from n t [] j h l = absurd (omega arith)
    rising_from n t (y ∷ q) zero h l = h.0
    rising_from n t (y ∷ q) (suc j) h l = let r : y + 1 ≤ get_or q j 0 = rising_from n (y + 1) q j h.2 (omega arith) in omega (arith, h.0, r)
rising_at n t (x ∷ q) (suc i) (suc j) h a b = rising_at n (x + 1) q i j h.2 (omega arith) (omega arith)

later_goes_first : (p : PlainProblem) → IsProblem p → (r d : ℕ) → r < d → d < length p.items → GoesFirst p d r
later_goes_first p is r d l b =
    let e : r + (d - r) ≡ d = omega arith in
    let falls : (item_at p.items d).value ≤ (item_at p.items r).value = rw e at (values_fall p.items is.items r (d - r) (omega arith)) in
    elim (cases_lt (item_at p.items d).value (item_at p.items r).value) [ inl less ↦ inl less | inr more ↦ inr (omega arith, l) ]

-- each one after the first places goes before each of these
behind_goes_first : (p : PlainProblem) → IsProblem p → (all stays : List ℕ) → Rising (length p.items) 0 all → IsFront p all stays → (d r : ℕ) → Contains (drop (length stays) all) d → Contains stays r → GoesFirst p d r
behind_goes_first p is all stays h front d r (k, lt, e) (i, less, f) =
    let m : ℕ = length stays in
    let far : length stays + k < length all = omega (arith, lt, length-drop (length stays) all) in
    let d_is : get_or all (length stays + k) 0 ≡ d = sym (get_or-drop (length stays) all k 0) ∙ (sym (get_or_default_zero (drop (length stays) all) k d lt) ∙ e) in
    let r_in : get_or stays i 0 ≡ r = sym (get_or_default_zero stays i r less) ∙ f in
    let r_is : get_or all i 0 ≡ r = sym (get_or-take (length stays) all i 0 less) ∙ (ap (λ (xs : List ℕ). get_or xs i 0) (sym front.first) ∙ r_in) in
    let rises : get_or all i 0 < get_or all (length stays + k) 0 = rising_at (length p.items) 0 all i (length stays + k) h (omega arith) far in
    let below : get_or all (length stays + k) 0 < length p.items = place_below (length p.items) all (length stays + k) h far in
    later_goes_first p is r d (omega (arith, d_is, r_is, rises)) (omega (arith, d_is, below))

pub stays_with : (p : PlainProblem) → IsProblem p → (kept : List ℕ) (j : ℕ) → Rising (length p.items) 0 (with_place j kept) → StaysOf p (with_place j kept) (kept_with p kept j)
unfolding kept_with
stays_with p is kept j h =
    let all : List ℕ = with_place j kept in
    let front : IsFront p (with_place j kept) (trimmed p (length (with_place j kept)) (with_place j kept)) = trimmed_front p is (length (with_place j kept)) (with_place j kept) (omega arith) h in
    record {
      light = front.light;
      first = front.first;
      longest = front.longest;
      dropped = λ d r a b. behind_goes_first p is (with_place j kept) (trimmed p (length (with_place j kept)) (with_place j kept)) h front d r a b;
    }

-- one place more in front, with which lo isn't reached
one_earlier : (p : PlainProblem) (kept : List ℕ) (j : ℕ) (rest : List ℕ) → value_of p (kept_with p kept j) < p.lo → (r : Option (List ℕ)) → Finds p (kept_with p kept j) rest r → Finds p kept (j ∷ rest) r
unfolding kept_after
one_earlier p kept j rest low None never = below
  where
    below : (n : ℕ) → 0 < n → n ≤ length (j ∷ rest) → value_of p (kept_after p kept (take n (j ∷ rest))) < p.lo
    below zero a b = absurd (omega arith)
    below (suc zero) a b = low
    below (suc (suc n)) a b = never (suc n) (omega arith) (omega arith)
one_earlier p kept j rest low (Some found) h =
    record {
      added = suc h.added;
      some = omega arith;
      within = omega (arith, h.within);
      stays = h.stays;
      reaches = h.reaches;
      before = below;
    }
  where
    below : (n : ℕ) → 0 < n → n < suc h.added → value_of p (kept_after p kept (take n (j ∷ rest))) < p.lo
    below zero a b = absurd (omega arith)
    below (suc zero) a b = low
    below (suc (suc n)) a b = h.before (suc n) (omega arith) (omega arith)

finds_from : (p : PlainProblem) (kept rest : List ℕ) → Finds p kept rest (found_from p kept rest)
unfolding found_from kept_after
finds_from p kept [] = λ n a b. absurd (omega arith)
finds_from p kept (j ∷ rest) =
    if_cases (λ (r : Option (List ℕ)). Finds p kept (j ∷ rest) r) (nat_le p.lo (value_of p (kept_with p kept j))) (Some (kept_with p kept j)) (found_from p (kept_with p kept j) rest)
    (λ yes. record { added = 1; some = omega arith; within = omega arith; stays = refl; reaches = grind (arith, nat_tests); before = λ n a b. absurd (omega arith) })
    (λ short. one_earlier p kept j rest (grind (arith, nat_tests)) (found_from p (kept_with p kept j) rest) (finds_from p (kept_with p kept j) rest))

pub draw_finds : (p : PlainProblem) (seed : List ℕ) → Finds p [] (order_of seed (length p.items)) (draw_of p seed)
unfolding draw_of
draw_finds p seed = finds_from p [] (order_of seed (length p.items))
