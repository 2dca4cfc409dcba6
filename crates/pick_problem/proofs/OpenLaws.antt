-- The selections of the part of a tree that is still open.
use Rattle.std.specs.Prelude.{◌≡◌, ℕ, ◌+◌, ◌<◌, ◌≤◌, ◌⊎◌, true, List, [], ◌∷◌, ◌++◌}
use Rattle.std.proofs.Common.{arith, refl, sym, ap, subst, inl, inr, ◌∙◌}
use Rattle.std.proofs.lemmas.Bool.{cases_lt}
use Rattle.pick_problem.specs.Problem.{Rising}
use Rattle.pick_problem.specs.Best.{comes_before}
use Rattle.pick_problem.specs.SoFar.{IsOpen}
use Rattle.pick_problem.proofs.OrderLaws.{test_less, test_more}

-- q goes on from the chosen places with places from t on
pub record Extends (n : ℕ) (chosen : List ℕ) (t : ℕ) (q : List ℕ) : Type 0 where
  pub more : List ℕ
  pub is : q ≡ chosen ++ more
  pub rising : Rising n t more

-- with the next place, or without it
rising_split : (n t : ℕ) (q : List ℕ) → Rising n t q → Rising n (t + 1) q ⊎ ((r : List ℕ) × (q ≡ t ∷ r) × Rising n (t + 1) r)
rising_split n t [] h = inl tt
rising_split n t (j ∷ q) h =
    elim (cases_lt t j) [
      | inl l ↦ inl (omega arith, h.1, h.2)
      | inr g ↦ let e : j ≡ t = omega (arith, h.0) in inr (q, ap (λ (k : ℕ). k ∷ q) e, subst (λ (k : ℕ). Rising n (k + 1) q) e h.2)
    ]

pub opens_enter : (n : ℕ) (chosen : List ℕ) (t : ℕ) (q : List ℕ) → IsOpen n chosen t q → IsOpen n (chosen ++ t ∷ []) (t + 1) q
opens_enter n [] t q h = rising_split n t q h
opens_enter n (j ∷ chosen) t q h =
    let rest = λ (r : List ℕ) (o : IsOpen n chosen t r). opens_enter n chosen t r o in
    elim h [ inl x ↦ inl x | inr r ↦ inr (r.0, r.1, rest r.0 r.2) ]

pub opens_all : (n t : ℕ) (q : List ℕ) → IsOpen n [] t q → Extends n [] t q
opens_all n t q h = record { more = q; is = refl; rising = h }

extends_more : (n j : ℕ) (chosen : List ℕ) (t : ℕ) (q r : List ℕ) → q ≡ j ∷ r → Extends n chosen t r → Extends n (j ∷ chosen) t q
extends_more n j chosen t q r e x = record { more = x.more; is = e ∙ ap (λ (k : List ℕ). j ∷ k) x.is; rising = x.rising }

-- what is open is below the node, or still open after it
pub opens_close : (n : ℕ) (chosen : List ℕ) (j t : ℕ) (q : List ℕ) → IsOpen n (chosen ++ j ∷ []) t q → Extends n (chosen ++ j ∷ []) t q ⊎ IsOpen n chosen (j + 1) q
opens_close n [] j t q h =
    elim h [ inl x ↦ inr x | inr r ↦ inl record { more = r.0; is = r.1; rising = r.2 } ]
opens_close n (k ∷ chosen) j t q h =
    let rest = λ (r : List ℕ) (o : IsOpen n (chosen ++ j ∷ []) t r). opens_close n chosen j t r o in
    elim h [
      | inl x ↦ inr (inl x)
      | inr r ↦
          elim (rest r.0 r.2) [
            | inl x ↦ inl (extends_more n k (chosen ++ j ∷ []) t q r.0 r.1 x)
            | inr o ↦ inr (inr (r.0, r.1, o))
          ]
    ]

-- q is below the node, and goes on with a place from t on and below u
pub record Passed (n : ℕ) (chosen : List ℕ) (t u : ℕ) (q : List ℕ) : Type 0 where
  pub first : ℕ
  pub more : List ℕ
  pub is : q ≡ chosen ++ first ∷ more
  pub least : t ≤ first
  pub below : first < u
  pub within : first < n
  pub rising : Rising n (first + 1) more

passed_all : (n t u : ℕ) (q : List ℕ) → Rising n t q → Rising n u q ⊎ Passed n [] t u q
passed_all n t u [] h = inl tt
passed_all n t u (j ∷ q) h =
    elim (cases_lt j u) [
      | inl l ↦ inr record { first = j; more = q; is = refl; least = h.0; below = l; within = h.1; rising = h.2 }
      | inr g ↦ inl (g, h.1, h.2)
    ]

passed_more : (n j : ℕ) (chosen : List ℕ) (t u : ℕ) (q r : List ℕ) → q ≡ j ∷ r → Passed n chosen t u r → Passed n (j ∷ chosen) t u q
passed_more n j chosen t u q r e y =
    record { first = y.first; more = y.more; is = e ∙ ap (λ (k : List ℕ). j ∷ k) y.is; least = y.least; below = y.below; within = y.within; rising = y.rising }

pub opens_pass : (n : ℕ) (chosen : List ℕ) (t u : ℕ) (q : List ℕ) → IsOpen n chosen t q → IsOpen n chosen u q ⊎ Passed n chosen t u q
opens_pass n [] t u q h = passed_all n t u q h
opens_pass n (j ∷ chosen) t u q h =
    let rest = λ (r : List ℕ) (o : IsOpen n chosen t r). opens_pass n chosen t u r o in
    elim h [
      | inl x ↦ inl (inl x)
      | inr r ↦
          elim (rest r.0 r.2) [
            | inl o ↦ inl (inr (r.0, r.1, o))
            | inr y ↦ inr (passed_more n j chosen t u q r.0 r.1 y)
          ]
    ]

cons_tail : (x y : ℕ) (xs ys : List ℕ) → x ∷ xs ≡ y ∷ ys → xs ≡ ys
cons_tail x y xs ys e = cc

-- with a place below t after the chosen ones nothing is open
pub opens_not : (n : ℕ) (chosen : List ℕ) (t s : ℕ) (more : List ℕ) → s < t → IsOpen n chosen t (chosen ++ s ∷ more) → ⊥
opens_not n [] t s more l h = omega (arith, h.0)
opens_not n (j ∷ chosen) t s more l h =
    let rest = opens_not n chosen t s more l in
    elim h [
      | inl x ↦ omega (arith, x.0)
      | inr r ↦ rest (subst (λ (k : List ℕ). IsOpen n chosen t k) (sym (cons_tail j j (chosen ++ s ∷ more) r.0 r.1)) r.2)
    ]

before_one : (n j : ℕ) (a q : List ℕ) → Rising n (j + 1) q → comes_before (j ∷ a) q ≡ true
before_one n j a [] h = refl
before_one n j a (k ∷ q) h = test_less j k a q (omega (arith, h.0))

-- what is open after a node comes after its chosen places
pub opens_behind : (n : ℕ) (chosen : List ℕ) (j : ℕ) (q : List ℕ) → IsOpen n chosen (j + 1) q → comes_before (chosen ++ j ∷ []) q ≡ true
opens_behind n [] j q h = before_one n j [] q h
opens_behind n (k ∷ chosen) j q h =
    let rest = λ (r : List ℕ) (o : IsOpen n chosen (j + 1) r). opens_behind n chosen j r o in
    elim h [
      | inl x ↦ before_one n k (chosen ++ j ∷ []) q x
      | inr r ↦ subst (λ (s : List ℕ). comes_before (k ∷ (chosen ++ j ∷ [])) s ≡ true) (sym r.1) (test_more k (chosen ++ j ∷ []) r.0 (rest r.0 r.2))
    ]
