-- Places that are still to be added.
use Rattle.std.specs.Prelude.{◌≡◌, ℕ, zero, suc, ◌+◌, ◌<◌, ◌≤◌, ◌⊎◌, ◌==◌, Bool, true, false, List, [], ◌∷◌, ◌++◌, length, cond, filter, not, nat_le, nat_lt, Option, Some, None}
use Rattle.std.proofs.Common.{arith, length-append, subst, refl, sym, ap, ◌∙◌, inl, inr}
use Rattle.std.proofs.lemmas.Bool.{cases_lt}
use Rattle.std.proofs.lemmas.Bool.Decides.{nat_tests}
use Rattle.std.proofs.lemmas.List.Elements.{All-cons, All-head, All-tail}
use Rattle.std.proofs.lemmas.List.Sums.{sum_by-cons}
use Rattle.pick_problem.specs.Problem.{PlainProblem, IsProblem, Rising, value_of, weight_of}
use Rattle.pick_problem.specs.Admissible.{IsFit}
use Rattle.pick_problem.specs.declared.item.Kind.TheVariants.{Lean}
use Rattle.pick_problem.proofs.RisingLaws.{Rising-earlier}
use Rattle.pick_problem.proofs.Deciding.{if_cases, if_true, if_false}
use Rattle.random_draw.specs.Draw.{with_place, without, first_dropped, one_less, trimmed, kept_with, found_from}
use Rattle.random_draw.specs.KeptPlaces.{AreFresh, times}
use Rattle.random_draw.proofs.Sorting.{place_first, place_later, sum_by-with_place}
use Rattle.random_draw.proofs.Trimming.{one_less_last, rising_front, trimmed_light, trimmed_heavy}

pub times_one : (j : ℕ) (xs : List ℕ) → times j (j ∷ xs) ≡ 1 + times j xs
times_one j xs = let same : (j == j) ≡ true = grind (arith, nat_tests) in sum_by-cons (λ k. cond (k == j) 1 0) j xs ∙ rw same refl

pub times_tail : (j x : ℕ) (xs : List ℕ) → times j xs ≤ times j (x ∷ xs)
times_tail j x xs = omega (arith, sum_by-cons (λ k. cond (k == j) 1 0) x xs)

-- a place that isn't there goes among rising places
pub rising_with : (n t j : ℕ) (ks : List ℕ) → t ≤ j → j < n → times j ks ≡ 0 → Rising n t ks → Rising n t (with_place j ks)
unfolding with_place
rising_with n t j [] l b none h = (l, b, tt)
rising_with n t j (k ∷ ks) l b none h =
    elim (cases_lt j k) [
      | inl less ↦ rw (place_first j k ks less) (l, b, (omega arith, h.1, h.2))
      | inr more ↦
          elim (cases_lt k j) [
            | inl past ↦ rw (place_later j k ks more) (h.0, h.1, rising_with n (k + 1) j ks (omega arith) b (omega (arith, none, times_tail j k ks)) h.2)
            | inr same ↦ let e : k ≡ j = omega arith in absurd (omega (arith, times_one j ks, rw e at none))
          ]
    ]

pub times-with_place : (i j : ℕ) (ks : List ℕ) → times i (with_place j ks) ≡ times i (j ∷ ks)
times-with_place i j ks = sum_by-with_place (λ k. cond (k == i) 1 0) j ks ∙ sym (sum_by-cons (λ k. cond (k == i) 1 0) j ks)

-- a test that is passed or not
choose : (P : List ℕ → Type 0) (b : Bool) (x : ℕ) (rest : List ℕ) → P (x ∷ rest) → P rest → P (cond b (x ∷ rest) rest)
choose P true x rest f g = f
choose P false x rest f g = g

times-filter : (i : ℕ) (q : ℕ → Bool) (ks : List ℕ) → times i (filter q ks) ≤ times i ks
times-filter i q [] = omega arith
times-filter i q (k ∷ ks) =
    let few : times i (filter q ks) ≤ times i ks = times-filter i q ks in
    choose (λ (r : List ℕ). times i r ≤ times i (k ∷ ks)) (q k) k (filter q ks)
    (omega (arith, few, sum_by-cons (λ m. cond (m == i) 1 0) k (filter q ks), sum_by-cons (λ m. cond (m == i) 1 0) k ks))
    (omega (arith, few, times_tail i k ks))

rising-filter : (n t : ℕ) (q : ℕ → Bool) (ks : List ℕ) → Rising n t ks → Rising n t (filter q ks)
rising-filter n t q [] h = tt
rising-filter n t q (k ∷ ks) h =
    let rest : Rising n (k + 1) (filter q ks) = rising-filter n (k + 1) q ks h.2 in
    choose (λ (r : List ℕ). Rising n t r) (q k) k (filter q ks) (h.0, h.1, rest) (Rising-earlier n t (k + 1) (filter q ks) (omega (arith, h.0)) rest)

times-one_less : (p : PlainProblem) (i : ℕ) (ks : List ℕ) → times i (one_less p ks) ≤ times i ks
unfolding one_less without
times-one_less p i [] = omega arith
times-one_less p i (j ∷ js) = times-filter i (λ k. not (k == first_dropped p j js)) (j ∷ js)

rising-one_less : (p : PlainProblem) (n : ℕ) (ks : List ℕ) → Rising n 0 ks → Rising n 0 (one_less p ks)
unfolding one_less without
rising-one_less p n [] h = tt
rising-one_less p n (j ∷ js) h = rising-filter n 0 (λ k. not (k == first_dropped p j js)) (j ∷ js) h

times-trimmed : (p : PlainProblem) (i n : ℕ) (ks : List ℕ) → times i (trimmed p n ks) ≤ times i ks
unfolding trimmed
times-trimmed p i zero ks = omega arith
times-trimmed p i (suc n) ks =
    if_cases (λ (r : List ℕ). times i r ≤ times i ks) (nat_lt p.most_weight (weight_of p ks)) (trimmed p n (one_less p ks)) ks
    (λ _. omega (arith, times-trimmed p i n (one_less p ks), times-one_less p i ks))
    (λ _. omega arith)

rising-trimmed : (p : PlainProblem) (m n : ℕ) (ks : List ℕ) → Rising m 0 ks → Rising m 0 (trimmed p n ks)
unfolding trimmed
rising-trimmed p m zero ks h = h
rising-trimmed p m (suc n) ks h =
    if_cases (λ (r : List ℕ). Rising m 0 r) (nat_lt p.most_weight (weight_of p ks)) (trimmed p n (one_less p ks)) ks
    (λ _. rising-trimmed p m n (one_less p ks) (rising-one_less p m ks h))
    (λ _. h)

-- a place to be added is none of those that are kept
apart : (p : PlainProblem) (kept : List ℕ) (j : ℕ) (rest : List ℕ) → AreFresh p kept (j ∷ rest) → times j kept ≡ 0
apart p kept j rest fresh = omega (arith, fresh.once j, times_one j rest)

pub rising_more : (p : PlainProblem) (kept : List ℕ) (j : ℕ) (rest : List ℕ) → Rising (length p.items) 0 kept → AreFresh p kept (j ∷ rest) → Rising (length p.items) 0 (with_place j kept)
rising_more p kept j rest h fresh = rising_with (length p.items) 0 j kept (omega arith) (All-head (λ k. k < length p.items) j rest fresh.below) (apart p kept j rest fresh) h

pub rising-kept_with : (p : PlainProblem) (kept : List ℕ) (j : ℕ) (rest : List ℕ) → Rising (length p.items) 0 kept → AreFresh p kept (j ∷ rest) → Rising (length p.items) 0 (kept_with p kept j)
unfolding kept_with
rising-kept_with p kept j rest h fresh = rising-trimmed p (length p.items) (length (with_place j kept)) (with_place j kept) (rising_more p kept j rest h fresh)

-- the others stay to be added
pub goes_on : (p : PlainProblem) (kept : List ℕ) (j : ℕ) (rest : List ℕ) → AreFresh p kept (j ∷ rest) → AreFresh p (kept_with p kept j) rest
unfolding kept_with
goes_on p kept j rest fresh =
    record {
      below = All-tail (λ k. k < length p.items) j rest fresh.below;
      once = λ i. omega (arith, fresh.once i, times-trimmed p i (length (with_place j kept)) (with_place j kept), times-with_place i j kept, sum_by-cons (λ m. cond (m == i) 1 0) j kept, sum_by-cons (λ m. cond (m == i) 1 0) j rest);
    }

-- the first one alone
pub first_fresh : (p : PlainProblem) (kept : List ℕ) (j : ℕ) (rest : List ℕ) → AreFresh p kept (j ∷ rest) → AreFresh p kept (j ∷ [])
first_fresh p kept j rest fresh =
    record {
      below = All-cons (λ k. k < length p.items) j [] (All-head (λ k. k < length p.items) j rest fresh.below) (λ k d l. absurd (omega arith));
      once = λ i. omega (arith, fresh.once i, sum_by-cons (λ m. cond (m == i) 1 0) j [], sum_by-cons (λ m. cond (m == i) 1 0) j rest);
    }

-- a list is empty, or has a last number
pub last_of : (ks : List ℕ) → (ks ≡ []) ⊎ ((front : List ℕ) × (x : ℕ) × (ks ≡ front ++ x ∷ []))
last_of [] = inl refl
last_of (k ∷ ks) =
    elim (last_of ks) [
      | inl e ↦ inr ([], k, ap (λ (r : List ℕ). k ∷ r) e)
      | inr h ↦ inr (k ∷ h.0, h.1, ap (λ (r : List ℕ). k ∷ r) h.2)
    ]

light-trimmed : (p : PlainProblem) → IsProblem p → (n : ℕ) (ks : List ℕ) → length ks ≤ n → Rising (length p.items) 0 ks → weight_of p (trimmed p n ks) ≤ p.most_weight
light-trimmed p is n [] few h = rw (trimmed_light p n [] (omega arith)) (omega arith)
light-trimmed p is zero (k ∷ ks) few h = absurd (omega arith)
light-trimmed p is (suc n) (k ∷ ks) few h =
    elim (cases_lt p.most_weight (weight_of p (k ∷ ks))) [
      | inr light ↦ rw (trimmed_light p (suc n) (k ∷ ks) light) light
      | inl heavy ↦
          rw (trimmed_heavy p n (k ∷ ks) heavy)
          (elim (last_of (k ∷ ks)) [
            | inl e ↦ absurd (cc)
            | inr l ↦
                let rising : Rising (length p.items) 0 (l.0 ++ l.1 ∷ []) = subst (λ (r : List ℕ). Rising (length p.items) 0 r) l.2 h in
                let less : one_less p (k ∷ ks) ≡ l.0 = ap (one_less p) l.2 ∙ one_less_last p is l.0 l.1 rising in
                rw less (light-trimmed p is n l.0 (omega (arith, ap length l.2, length-append l.0 (l.1 ∷ []))) (rising_front (length p.items) 0 l.0 l.1 rising))
          ])
    ]

pub light-kept_with : (p : PlainProblem) → IsProblem p → (kept : List ℕ) (j : ℕ) (rest : List ℕ) → Rising (length p.items) 0 kept → AreFresh p kept (j ∷ rest) → weight_of p (kept_with p kept j) ≤ p.most_weight
unfolding kept_with
light-kept_with p is kept j rest h fresh = light-trimmed p is (length (with_place j kept)) (with_place j kept) (omega arith) (rising_more p kept j rest h fresh)

-- what reaches lo isn't empty
some_reach : (p : PlainProblem) → IsProblem p → (q : List ℕ) → p.lo ≤ value_of p q → 0 < length q
some_reach p is [] h = absurd (omega (arith, is.some))
some_reach p is (j ∷ q) h = omega arith

-- what is found is admissible
pub found_fits : (p : PlainProblem) → IsProblem p → p.kind ≡ Lean → (kept rest : List ℕ) → Rising (length p.items) 0 kept → AreFresh p kept rest → IsFit p (found_from p kept rest)
unfolding found_from
found_fits p is lean kept [] h fresh = tt
found_fits p is lean kept (j ∷ rest) h fresh =
    let rises : Rising (length p.items) 0 (kept_with p kept j) = rising-kept_with p kept j rest h fresh in
    if_cases (λ (r : Option (List ℕ)). IsFit p r) (nat_le p.lo (value_of p (kept_with p kept j))) (Some (kept_with p kept j)) (found_from p (kept_with p kept j) rest)
    (λ yes.
    let reaches : p.lo ≤ value_of p (kept_with p kept j) = grind (arith, nat_tests) in
    record {
      some = some_reach p is (kept_with p kept j) reaches;
      rising = rises;
      reaches = reaches;
      light = light-kept_with p is kept j rest h fresh;
      fits = rw lean tt;
    })
    (λ no. found_fits p is lean (kept_with p kept j) rest rises (goes_on p kept j rest fresh))

pub found_now : (p : PlainProblem) (kept : List ℕ) (j : ℕ) (rest : List ℕ) → p.lo ≤ value_of p (kept_with p kept j) → found_from p kept (j ∷ rest) ≡ Some (kept_with p kept j)
unfolding found_from
found_now p kept j rest h = if_true (nat_le p.lo (value_of p (kept_with p kept j))) (Some (kept_with p kept j)) (found_from p (kept_with p kept j) rest) (grind (arith, nat_tests))

pub found_later : (p : PlainProblem) (kept : List ℕ) (j : ℕ) (rest : List ℕ) → value_of p (kept_with p kept j) < p.lo → found_from p kept (j ∷ rest) ≡ found_from p (kept_with p kept j) rest
unfolding found_from
found_later p kept j rest h = if_false (nat_le p.lo (value_of p (kept_with p kept j))) (Some (kept_with p kept j)) (found_from p (kept_with p kept j) rest) (grind (arith, nat_tests))

pub found_none : (p : PlainProblem) (kept : List ℕ) → found_from p kept [] ≡ None
unfolding found_from
found_none p kept = refl
