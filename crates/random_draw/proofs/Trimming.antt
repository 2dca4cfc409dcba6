-- What is dropped from rising places of a pool, whose values fall.
use Rattle.std.specs.Prelude.{◌≡◌, ℕ, zero, suc, ◌+◌, ◌-◌, ◌*◌, ◌<◌, ◌≤◌, ◌==◌, true, false, List, [], ◌∷◌, ◌++◌, length, max, nat_lt}
use Rattle.std.proofs.Common.{arith, refl, ap, ◌∙◌, inl, inr}
use Rattle.std.proofs.lemmas.Bool.{cases_lt}
use Rattle.std.proofs.lemmas.Bool.Decides.{nat_tests}
use Rattle.pick_problem.specs.declared.item.Item.{Item}
use Rattle.pick_problem.specs.Pool.{AreItems, IsInOrder, no_item, item_at}
use Rattle.pick_problem.specs.Problem.{PlainProblem, IsProblem, Rising, value_of, weight_of}
use Rattle.pick_problem.proofs.Deciding.{if_cases, if_true, if_false}
use Rattle.pick_problem.proofs.SumLaws.{item_is}
use Rattle.random_draw.specs.Draw.{with_place, sooner, first_dropped, without, one_less, trimmed}
use Rattle.random_draw.proofs.Sorting.{place_first, place_later}

no_more : (x y : Item) → IsInOrder x y → y.value ≤ x.value
no_more x y (inl l) = omega arith
no_more x y (inr k) = omega (arith, k.0)

-- values fall along a pool
pub values_fall : (items : List Item) → AreItems items → (j d : ℕ) → j + d < length items → (item_at items (j + d)).value ≤ (item_at items j).value
values_fall items are j zero h = let e : j + 0 ≡ j = omega arith in rw e (omega arith)
values_fall items are j (suc d) h =
    let before : (item_at items (j + d)).value ≤ (item_at items j).value = values_fall items are j d (omega arith) in
    let next : (item_at items (j + d + 1)).value ≤ (item_at items (j + d)).value = no_more (item_at items (j + d)) (item_at items (j + d + 1)) (are.order (j + d) no_item (omega arith)) in
    let e : j + suc d ≡ j + d + 1 = omega arith in
    rw e (omega (arith, before, next))

-- of two places of a pool the greater one is dropped first
pub sooner_later : (p : PlainProblem) → IsProblem p → (j k : ℕ) → j < k → k < length p.items → sooner p j k ≡ k
unfolding sooner
sooner_later p is j k l h =
    let e : j + (k - j) ≡ k = omega arith in
    let falls : (item_at p.items k).value ≤ (item_at p.items j).value = rw e at (values_fall p.items is.items j (k - j) (omega arith)) in
    let first : nat_lt (item_at p.items j).value (item_at p.items k).value ≡ false = grind (arith, nat_tests) in
    rw first (if_cases (λ (v : ℕ). v ≡ k) (nat_lt (item_at p.items k).value (item_at p.items j).value) k (max j k) (λ _. refl) (λ _. omega arith))

pub rising_last : (n t : ℕ) (ks : List ℕ) (x : ℕ) → Rising n t (ks ++ x ∷ []) → (t ≤ x) × (x < n)
rising_last n t [] x h = (h.0, h.1)
rising_last n t (k ∷ ks) x h = let rest : (k + 1 ≤ x) × (x < n) = rising_last n (k + 1) ks x h.2 in (omega (arith, h.0, rest.0), rest.1)

pub rising_front : (n t : ℕ) (ks : List ℕ) (x : ℕ) → Rising n t (ks ++ x ∷ []) → Rising n t ks
rising_front n t [] x h = tt
rising_front n t (k ∷ ks) x h = (h.0, h.1, rising_front n (k + 1) ks x h.2)

first_is_last : (p : PlainProblem) → IsProblem p → (j : ℕ) (ks : List ℕ) (x : ℕ) → Rising (length p.items) (j + 1) (ks ++ x ∷ []) → first_dropped p j (ks ++ x ∷ []) ≡ x
unfolding first_dropped
first_is_last p is j [] x h = sooner_later p is j x (omega (arith, h.0)) h.1
first_is_last p is j (k ∷ ks) x h =
    ap (λ (m : ℕ). first_dropped p m (ks ++ x ∷ [])) (sooner_later p is j k (omega (arith, h.0)) h.1) ∙ first_is_last p is k ks x h.2

-- the places before the last one are not the last one
others_stay : (n t : ℕ) (ks : List ℕ) (x : ℕ) → Rising n t (ks ++ x ∷ []) → without x (ks ++ x ∷ []) ≡ ks
unfolding without
others_stay n t [] x h = let same : (x == x) ≡ true = grind (arith, nat_tests) in rw same refl
others_stay n t (k ∷ ks) x h =
    let last : (k + 1 ≤ x) × (x < n) = rising_last n (k + 1) ks x h.2 in
    let other : (k == x) ≡ false = grind (arith, nat_tests, last.0) in
    rw other (ap (λ (r : List ℕ). k ∷ r) (others_stay n (k + 1) ks x h.2))

-- of rising places of a pool the greatest is dropped
pub one_less_last : (p : PlainProblem) → IsProblem p → (ks : List ℕ) (x : ℕ) → Rising (length p.items) 0 (ks ++ x ∷ []) → one_less p (ks ++ x ∷ []) ≡ ks
unfolding one_less first_dropped
one_less_last p is [] x h = others_stay (length p.items) 0 [] x h
one_less_last p is (j ∷ ks) x h =
    ap (λ (m : ℕ). without m (j ∷ (ks ++ x ∷ []))) (first_is_last p is j ks x h.2) ∙ others_stay (length p.items) 0 (j ∷ ks) x h

pub trimmed_light : (p : PlainProblem) (n : ℕ) (kept : List ℕ) → weight_of p kept ≤ p.most_weight → trimmed p n kept ≡ kept
unfolding trimmed
trimmed_light p zero kept h = refl
trimmed_light p (suc n) kept h = if_false (nat_lt p.most_weight (weight_of p kept)) (trimmed p n (one_less p kept)) kept (grind (arith, nat_tests))

pub trimmed_heavy : (p : PlainProblem) (n : ℕ) (kept : List ℕ) → p.most_weight < weight_of p kept → trimmed p (suc n) kept ≡ trimmed p n (one_less p kept)
unfolding trimmed
trimmed_heavy p n kept h = if_true (nat_lt p.most_weight (weight_of p kept)) (trimmed p n (one_less p kept)) kept (grind (arith, nat_tests))

-- rising places bring no more than so many times the greatest value, and weigh no more than so many times the greatest
-- weight
pub value_most : (p : PlainProblem) → IsProblem p → (t : ℕ) (q : List ℕ) → Rising (length p.items) t q → value_of p q ≤ length q * 210_000_000_000_000_000
value_most p is t [] h = omega arith
value_most p is t (j ∷ q) h = omega (arith, (item_is p j is h.1).value, value_most p is (j + 1) q h.2)

pub weight_most : (p : PlainProblem) → IsProblem p → (t : ℕ) (q : List ℕ) → Rising (length p.items) t q → weight_of p q ≤ length q * 40_000_000
weight_most p is t [] h = omega arith
weight_most p is t (j ∷ q) h = omega (arith, (item_is p j is h.1).weight, weight_most p is (j + 1) q h.2)

pub value-with_place : (p : PlainProblem) (j : ℕ) (ks : List ℕ) → value_of p (with_place j ks) ≡ (item_at p.items j).value + value_of p ks
unfolding with_place
value-with_place p j [] = refl
value-with_place p j (k ∷ ks) =
    elim (cases_lt j k) [
      | inl l ↦ rw (place_first j k ks l) refl
      | inr g ↦ rw (place_later j k ks g) (omega (arith, value-with_place p j ks))
    ]

pub weight-with_place : (p : PlainProblem) (j : ℕ) (ks : List ℕ) → weight_of p (with_place j ks) ≡ (item_at p.items j).weight + weight_of p ks
unfolding with_place
weight-with_place p j [] = refl
weight-with_place p j (k ∷ ks) =
    elim (cases_lt j k) [
      | inl l ↦ rw (place_first j k ks l) refl
      | inr g ↦ rw (place_later j k ks g) (omega (arith, weight-with_place p j ks))
    ]
