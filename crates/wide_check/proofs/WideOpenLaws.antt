-- The lists of the part of a wide tree that is still open.
use Rattle.std.specs.Prelude.{◌≡◌, ℕ, ◌+◌, ◌<◌, ◌⊎◌, Bool, true, false, List, [], ◌∷◌, ◌++◌, length}
use Rattle.std.proofs.Common.{arith, refl, sym, ap, subst, inl, inr, ◌∙◌}
use Rattle.std.proofs.lemmas.Bool.{cases_lt}
use Rattle.pick_problem.specs.Problem.{Rising}
use Rattle.pick_problem.proofs.OpenLaws.{Passed}
use Rattle.wide_check.specs.Wide.{is_met_before}
use Rattle.wide_check.specs.WideSoFar.{IsOpen}
use Rattle.wide_check.proofs.MetLaws.{met_less, met_more}

-- q goes on from the chosen places with places from t on; it is them only where the node was just entered
pub record Extends (n : ℕ) (entered : Bool) (chosen : List ℕ) (t : ℕ) (q : List ℕ) : Type 0 where
  pub more : List ℕ
  pub is : q ≡ chosen ++ more
  pub rising : Rising n t more
  pub some : entered ≡ false → 0 < length more

-- a list that goes on from a place on begins with it, or goes on behind it
split_next : (n t : ℕ) (q : List ℕ) → Rising n t q → 0 < length q → (Rising n (t + 1) q × (0 < length q)) ⊎ ((r : List ℕ) × (q ≡ t ∷ r) × Rising n (t + 1) r)
split_next n t [] h some = absurd (omega arith)
split_next n t (j ∷ q) h some =
    elim (cases_lt t j) [
      | inl l ↦ inl ((omega arith, h.1, h.2), some)
      | inr g ↦ let e : j ≡ t = omega (arith, h.0) in inr (q, ap (λ (k : ℕ). k ∷ q) e, subst (λ (k : ℕ). Rising n (k + 1) q) e h.2)
    ]

open_here : (n t : ℕ) (q : List ℕ) → Rising n t q → IsOpen n true [] t q
open_here n t q h = (h, λ e. absurd (cc))

-- I: what is open is with the next place or without it
pub opens_enter : (n : ℕ) (chosen : List ℕ) (t : ℕ) (q : List ℕ) → IsOpen n false chosen t q → IsOpen n true (chosen ++ t ∷ []) (t + 1) q
opens_enter n [] t q h =
    elim (split_next n t q h.0 (h.1 refl)) [
      | inl x ↦ inl x
      | inr r ↦ inr (r.0, r.1, open_here n (t + 1) r.0 r.2)
    ]
opens_enter n (j ∷ chosen) t q h =
    let rest = λ (r : List ℕ) (o : IsOpen n false chosen t r). opens_enter n chosen t r o in
    elim h [ inl x ↦ inl x | inr r ↦ inr (r.0, r.1, rest r.0 r.2) ]

-- what is open at a node that was just entered is its chosen places, or is open where they are decided
settled_all : (n t : ℕ) (q : List ℕ) → Rising n t q → (q ≡ []) ⊎ IsOpen n false [] t q
settled_all n t [] h = inl refl
settled_all n t (j ∷ q) h = inr (h, λ e. omega arith)

pub settled : (n : ℕ) (entered : Bool) (chosen : List ℕ) (t : ℕ) (q : List ℕ) → IsOpen n entered chosen t q → (q ≡ chosen) ⊎ IsOpen n false chosen t q
settled n entered [] t q h = settled_all n t q h.0
settled n entered (j ∷ chosen) t q h =
    let rest = λ (r : List ℕ) (o : IsOpen n entered chosen t r). settled n entered chosen t r o in
    elim h [
      | inl x ↦ inr (inl x)
      | inr r ↦
          elim (rest r.0 r.2) [
            | inl e ↦ inl (r.1 ∙ ap (λ (k : List ℕ). j ∷ k) e)
            | inr o ↦ inr (inr (r.0, r.1, o))
          ]
    ]

pub opens_all : (n : ℕ) (entered : Bool) (t : ℕ) (q : List ℕ) → IsOpen n entered [] t q → Extends n entered [] t q
opens_all n entered t q h = record { more = q; is = refl; rising = h.0; some = h.1 }

extends_more : (n : ℕ) (entered : Bool) (j : ℕ) (chosen : List ℕ) (t : ℕ) (q r : List ℕ) → q ≡ j ∷ r → Extends n entered chosen t r → Extends n entered (j ∷ chosen) t q
extends_more n entered j chosen t q r e x =
    record { more = x.more; is = e ∙ ap (λ (k : List ℕ). j ∷ k) x.is; rising = x.rising; some = x.some }

-- a close: what is open is below the node, or still open after it
pub opens_close : (n : ℕ) (entered : Bool) (chosen : List ℕ) (j t : ℕ) (q : List ℕ) → IsOpen n entered (chosen ++ j ∷ []) t q → Extends n entered (chosen ++ j ∷ []) t q ⊎ IsOpen n false chosen (j + 1) q
opens_close n entered [] j t q h =
    elim h [
      | inl x ↦ inr (x.0, λ e. x.1)
      | inr r ↦ inl (extends_more n entered j [] t q r.0 r.1 (opens_all n entered t r.0 r.2))
    ]
opens_close n entered (k ∷ chosen) j t q h =
    let rest = λ (r : List ℕ) (o : IsOpen n entered (chosen ++ j ∷ []) t r). opens_close n entered chosen j t r o in
    elim h [
      | inl x ↦ inr (inl x)
      | inr r ↦
          elim (rest r.0 r.2) [
            | inl x ↦ inl (extends_more n entered k (chosen ++ j ∷ []) t q r.0 r.1 x)
            | inr o ↦ inr (inr (r.0, r.1, o))
          ]
    ]

-- T: what is open goes on with a place that is passed, or is still open
passed_all : (n t u : ℕ) (q : List ℕ) → Rising n t q → 0 < length q → IsOpen n false [] u q ⊎ Passed n [] t u q
passed_all n t u [] h some = absurd (omega arith)
passed_all n t u (j ∷ q) h some =
    elim (cases_lt j u) [
      | inl l ↦ inr record { first = j; more = q; is = refl; least = h.0; below = l; within = h.1; rising = h.2 }
      | inr g ↦ inl ((g, h.1, h.2), λ e. some)
    ]

passed_more : (n j : ℕ) (chosen : List ℕ) (t u : ℕ) (q r : List ℕ) → q ≡ j ∷ r → Passed n chosen t u r → Passed n (j ∷ chosen) t u q
passed_more n j chosen t u q r e y =
    record { first = y.first; more = y.more; is = e ∙ ap (λ (k : List ℕ). j ∷ k) y.is; least = y.least; below = y.below; within = y.within; rising = y.rising }

pub opens_pass : (n : ℕ) (chosen : List ℕ) (t u : ℕ) (q : List ℕ) → IsOpen n false chosen t q → IsOpen n false chosen u q ⊎ Passed n chosen t u q
opens_pass n [] t u q h = passed_all n t u q h.0 (h.1 refl)
opens_pass n (j ∷ chosen) t u q h =
    let rest = λ (r : List ℕ) (o : IsOpen n false chosen t r). opens_pass n chosen t u r o in
    elim h [
      | inl x ↦ inl (inl x)
      | inr r ↦
          elim (rest r.0 r.2) [
            | inl o ↦ inl (inr (r.0, r.1, o))
            | inr y ↦ inr (passed_more n j chosen t u q r.0 r.1 y)
          ]
    ]

cons_tail : (x y : ℕ) (xs ys : List ℕ) → x ∷ xs ≡ y ∷ ys → xs ≡ ys
cons_tail x y xs ys e = cc

-- with a place below t after the chosen ones nothing is open
pub opens_not : (n : ℕ) (entered : Bool) (chosen : List ℕ) (t s : ℕ) (more : List ℕ) → s < t → IsOpen n entered chosen t (chosen ++ s ∷ more) → ⊥
opens_not n entered [] t s more l h = omega (arith, h.0)
opens_not n entered (j ∷ chosen) t s more l h =
    let rest = opens_not n entered chosen t s more l in
    elim h [
      | inl x ↦ omega (arith, x.0)
      | inr r ↦ rest (subst (λ (k : List ℕ). IsOpen n entered chosen t k) (sym (cons_tail j j (chosen ++ s ∷ more) r.0 r.1)) r.2)
    ]

met_one : (n j : ℕ) (a q : List ℕ) → Rising n (j + 1) q → 0 < length q → is_met_before (j ∷ a) q ≡ true
met_one n j a [] h some = absurd (omega arith)
met_one n j a (k ∷ q) h some = met_less j k a q (omega (arith, h.0))

-- what is open after a node is met after its chosen places
pub opens_behind : (n : ℕ) (chosen : List ℕ) (j : ℕ) (q : List ℕ) → IsOpen n false chosen (j + 1) q → is_met_before (chosen ++ j ∷ []) q ≡ true
opens_behind n [] j q h = met_one n j [] q h.0 (h.1 refl)
opens_behind n (k ∷ chosen) j q h =
    let rest = λ (r : List ℕ) (o : IsOpen n false chosen (j + 1) r). opens_behind n chosen j r o in
    elim h [
      | inl x ↦ met_one n k (chosen ++ j ∷ []) q x.0 x.1
      | inr r ↦ subst (λ (s : List ℕ). is_met_before (k ∷ (chosen ++ j ∷ [])) s ≡ true) (sym r.1) (met_more k (chosen ++ j ∷ []) r.0 (rest r.0 r.2))
    ]

met_none : (q : List ℕ) → 0 < length q → is_met_before [] q ≡ true
met_none [] some = absurd (omega arith)
met_none (y ∷ q) some = refl

-- what is open at a node whose chosen places are decided is met after them
pub opens_after : (n : ℕ) (chosen : List ℕ) (t : ℕ) (q : List ℕ) → IsOpen n false chosen t q → is_met_before chosen q ≡ true
opens_after n [] t q h = met_none q (h.1 refl)
opens_after n (k ∷ chosen) t q h =
    let rest = λ (r : List ℕ) (o : IsOpen n false chosen t r). opens_after n chosen t r o in
    elim h [
      | inl x ↦ met_one n k chosen q x.0 x.1
      | inr r ↦ subst (λ (s : List ℕ). is_met_before (k ∷ chosen) s ≡ true) (sym r.1) (met_more k chosen r.0 (rest r.0 r.2))
    ]
