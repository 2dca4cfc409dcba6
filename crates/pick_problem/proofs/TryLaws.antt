-- Each rising list of places has a number, so trying all numbers finds the best.
use Rattle.std.specs.Prelude.{◌≡◌, ℕ, zero, suc, ◌+◌, ◌-◌, ◌*◌, ◌/◌, ◌%◌, ◌^◌, ◌==◌, ◌<◌, ◌≤◌, List, [], ◌∷◌, ◌++◌, length, Option, Some, None}
use Rattle.std.proofs.Common.{arith, refl, sym, ap, subst, inl, inr, ◌∙◌, append_assoc}
use Rattle.std.proofs.Math.Nat.{pow-le-pow_right}
use Rattle.std.proofs.lemmas.Bool.{cases_lt}
use Rattle.std.proofs.lemmas.Bool.Decides.{nat_tests}
use Rattle.pick_problem.specs.Problem.{PlainProblem, Rising}
use Rattle.pick_problem.specs.Admissible.{IsAdmissible, IsFit}
use Rattle.pick_problem.specs.Best.{IsBest, IsBetter}
use Rattle.pick_problem.specs.Trying.{IsNoBetter, places_from}
use Rattle.pick_problem.proofs.Deciding.{if_cases, if_true, if_false}
use Rattle.pick_problem.proofs.BestLaws.{better_transitive, better_total}
use Rattle.pick_problem.proofs.RisingLaws.{Rising-earlier}

-- the lowest bit is set, or it isn't
odd_places : (k t m : ℕ) → m % 2 ≡ 1 → places_from (suc k) t m ≡ t ∷ places_from k (t + 1) (m / 2)
odd_places k t m odd = if_true (m % 2 == 1) (t ∷ places_from k (t + 1) (m / 2)) (places_from k (t + 1) (m / 2)) (grind (arith, nat_tests))

even_places : (k t m : ℕ) → (m % 2 ≡ 1 → ⊥) → places_from (suc k) t m ≡ places_from k (t + 1) (m / 2)
even_places k t m even = if_false (m % 2 == 1) (t ∷ places_from k (t + 1) (m / 2)) (places_from k (t + 1) (m / 2)) (grind (arith, nat_tests))

-- a place that is set goes after those that were found
pub set_place : (count place bits : ℕ) (found : List ℕ) (all : List ℕ) → place < count → bits % 2 ≡ 1 → found ++ places_from (count - place) place bits ≡ all → (found ++ place ∷ []) ++ places_from (count - (place + 1)) (place + 1) (bits / 2) ≡ all
set_place count place bits found all below odd h =
    let more : count - place ≡ suc (count - (place + 1)) = omega arith in
    append_assoc found (place ∷ []) (places_from (count - (place + 1)) (place + 1) (bits / 2))
    ∙ ap (λ (r : List ℕ). found ++ r) (sym (odd_places (count - (place + 1)) place bits odd))
    ∙ subst (λ (n : ℕ). found ++ places_from n place bits ≡ all) more h

pub clear_place : (count place bits : ℕ) (found : List ℕ) (all : List ℕ) → place < count → (bits % 2 ≡ 1 → ⊥) → found ++ places_from (count - place) place bits ≡ all → found ++ places_from (count - (place + 1)) (place + 1) (bits / 2) ≡ all
clear_place count place bits found all below even h =
    let more : count - place ≡ suc (count - (place + 1)) = omega arith in
    ap (λ (r : List ℕ). found ++ r) (sym (even_places (count - (place + 1)) place bits even))
    ∙ subst (λ (n : ℕ). found ++ places_from n place bits ≡ all) more h

places_rise : (n k t m : ℕ) → n ≡ t + k → Rising n t (places_from k t m)
places_rise n zero t m e = tt
places_rise n (suc k) t m e =
    let rest : Rising n (t + 1) (places_from k (t + 1) (m / 2)) = places_rise n k (t + 1) (m / 2) (omega arith) in
    if_cases (Rising n t) (m % 2 == 1) (t ∷ places_from k (t + 1) (m / 2)) (places_from k (t + 1) (m / 2))
    (λ _. (omega arith, omega arith, rest))
    (λ _. Rising-earlier n t (t + 1) (places_from k (t + 1) (m / 2)) (omega arith) rest)

pub numbered_rises : (n m : ℕ) → Rising n 0 (places_from n 0 m)
numbered_rises n m = places_rise n n 0 m (omega arith)

-- the number of a rising list
number_of : (n k t : ℕ) (q : List ℕ) → n ≡ t + k → Rising n t q → (m : ℕ) × (m < 2 ^ k) × (places_from k t m ≡ q)
number_of n zero t [] e h = (0, omega arith, refl)
number_of n zero t (j ∷ q) e h = absurd (omega (arith, h.0, h.1))
number_of n (suc k) t [] e h =
    let rest : (m : ℕ) × (m < 2 ^ k) × (places_from k (t + 1) m ≡ []) = number_of n k (t + 1) [] (omega arith) tt in
    let half : (2 * rest.0) / 2 ≡ rest.0 = omega arith in
    (2 * rest.0, omega (arith, rest.1), even_places k t (2 * rest.0) (λ o. omega arith) ∙ subst (λ (b : ℕ). places_from k (t + 1) b ≡ []) (sym half) rest.2)
number_of n (suc k) t (j ∷ q) e h =
    let with_first = number_of n k (t + 1) q (omega arith) in
    let without = number_of n k (t + 1) (j ∷ q) (omega arith) in
    elim (cases_lt t j) [
      | inl l ↦
          let rest : (m : ℕ) × (m < 2 ^ k) × (places_from k (t + 1) m ≡ j ∷ q) = without (omega arith, h.1, h.2) in
          let half : (2 * rest.0) / 2 ≡ rest.0 = omega arith in
          (2 * rest.0, omega (arith, rest.1), even_places k t (2 * rest.0) (λ o. omega arith) ∙ subst (λ (b : ℕ). places_from k (t + 1) b ≡ j ∷ q) (sym half) rest.2)
      | inr g ↦
          let here : j ≡ t = omega (arith, h.0) in
          let rest : (m : ℕ) × (m < 2 ^ k) × (places_from k (t + 1) m ≡ q) = with_first (subst (λ (z : ℕ). Rising n (z + 1) q) here h.2) in
          let half : (2 * rest.0 + 1) / 2 ≡ rest.0 = omega arith in (
            2 * rest.0 + 1,
            omega (arith, rest.1),
            odd_places k t (2 * rest.0 + 1) (omega arith)
                ∙ (ap (λ (b : ℕ). t ∷ places_from k (t + 1) b) half ∙ (ap (λ (r : List ℕ). t ∷ r) rest.2 ∙ ap (λ (z : ℕ). z ∷ q) (sym here))),
          )
    ]

-- once all numbers are tried, the best is found
pub tried_all : (p : PlainProblem) (best : Option (List ℕ)) (all : ℕ) → 2 ^ length p.items ≤ all → IsFit p best → ((m : ℕ) → m < all → IsAdmissible p (places_from (length p.items) 0 m) → IsNoBetter p best (places_from (length p.items) 0 m)) → IsBest p best
tried_all p best all enough fit tried = found p best fit (λ q good.
    let number : (m : ℕ) × (m < 2 ^ length p.items) × (places_from (length p.items) 0 m ≡ q) = number_of (length p.items) (length p.items) 0 q (omega arith) good.rising in
    let below : number.0 < all = omega (arith, number.1) in
    subst (λ (r : List ℕ). IsNoBetter p best r) number.2 (tried number.0 below (subst (IsAdmissible p) (sym number.2) good)))
  where
    found : (p : PlainProblem) (best : Option (List ℕ)) → IsFit p best → ((q : List ℕ) → IsAdmissible p q → IsNoBetter p best q) → IsBest p best
    found p None fit each = each
    found p (Some a) fit each = (fit, each)

pub wins_over : (p : PlainProblem) (a b q : List ℕ) → IsBetter p a b → IsNoBetter p (Some b) q → IsNoBetter p (Some a) q
wins_over p a b q h k =
    elim k [ inl e ↦ inr (subst (λ (r : List ℕ). IsBetter p a r) (sym e) h) | inr l ↦ inr (better_transitive p a b q h l) ]

pub loses_to : (p : PlainProblem) (a b : List ℕ) → Rising (length p.items) 0 a → IsAdmissible p b → ¬ IsBetter p a b → IsNoBetter p (Some b) a
loses_to p a b ra good h =
    elim (better_total p (length p.items) a b ra good.rising) [ inl l ↦ absurd (h l) | inr k ↦ k ]

-- 16 places have no more lists than 32 bits have numbers
pub few_tries : (count n number : ℕ) → count ≡ n → n ≤ 16 → (1 * 2 ^ count) % 4294967296 ≤ number → 2 ^ n ≤ number
few_tries count n number e few h =
    let bound : 2 ^ n ≤ 2 ^ 16 = pow-le-pow_right (omega arith) few in
    let same : 2 ^ count ≡ 2 ^ n = ap (λ (k : ℕ). 2 ^ k) e in
    omega arith
