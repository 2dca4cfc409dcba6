-- Scores, and the one best selection.
use Rattle.std.specs.Prelude.{◌≡◌, ℕ, ◌⊎◌, List, Option, Some, None}
use Rattle.std.proofs.Common.{arith, sym, ap, inl, inr, refl}
use Rattle.std.proofs.lemmas.Bool.{cases_lt}
use Rattle.std.proofs.lemmas.Int.{ints}
use Rattle.pick_problem.specs.declared.score.Score.{Score}
use Rattle.pick_problem.specs.Problem.{PlainProblem, Rising}
use Rattle.pick_problem.specs.Score.{IsBelow, IsSame, score_of}
use Rattle.pick_problem.specs.Best.{IsBetter, IsBest}
use Rattle.pick_problem.proofs.Deciding.{cases_z}
use Rattle.pick_problem.proofs.OrderLaws.{before_irreflexive, before_transitive, before_total}

-- of two scores one is below, or they are the same
pub score_cases : (x y : Score) → IsBelow x y ⊎ (IsSame x y ⊎ IsBelow y x)
score_cases x y =
    elim (cases_z x.first y.first) [
      | inl l ↦ inl (inl l)
      | inr k ↦
          elim k [
            | inl e ↦
                elim (cases_lt x.second y.second) [
                  | inl l ↦ inl (inr (e, l))
                  | inr g ↦
                      elim (cases_lt y.second x.second) [
                        | inl l ↦ inr (inr (inr (sym e, l)))
                        | inr f ↦ inr (inl (e, omega arith))
                      ]
                ]
            | inr g ↦ inr (inr (inl g))
          ]
    ]

pub below_transitive : (x y z : Score) → IsBelow x y → IsBelow y z → IsBelow x z
below_transitive x y z h k =
    elim h [
      | inl l ↦ elim k [ inl m ↦ inl (omega (arith, ints, l, m)) | inr m ↦ inl (omega (arith, ints, l, m.0)) ]
      | inr l ↦ elim k [ inl m ↦ inl (omega (arith, ints, l.0, m)) | inr m ↦ inr (omega (arith, ints, l.0, m.0), omega (arith, l.1, m.1)) ]
    ]

pub below_same : (x y z : Score) → IsBelow x y → IsSame y z → IsBelow x z
below_same x y z h k =
    elim h [ inl l ↦ inl (omega (arith, ints, l, k.0)) | inr l ↦ inr (omega (arith, ints, l.0, k.0), omega (arith, l.1, k.1)) ]

pub same_below : (x y z : Score) → IsSame x y → IsBelow y z → IsBelow x z
same_below x y z h k =
    elim k [ inl l ↦ inl (omega (arith, ints, l, h.0)) | inr l ↦ inr (omega (arith, ints, l.0, h.0), omega (arith, l.1, h.1)) ]

pub same_transitive : (x y z : Score) → IsSame x y → IsSame y z → IsSame x z
same_transitive x y z h k = (omega (arith, ints, h.0, k.0), omega (arith, h.1, k.1))

pub below_irreflexive : (x : Score) → IsBelow x x → ⊥
below_irreflexive x h = elim h [ inl l ↦ omega (arith, ints, l) | inr l ↦ omega (arith, l.1) ]

pub better_irreflexive : (p : PlainProblem) (a : List ℕ) → IsBetter p a a → ⊥
better_irreflexive p a h =
    elim h [ inl l ↦ below_irreflexive (score_of p a) l | inr s ↦ before_irreflexive a s.1 ]

pub better_transitive : (p : PlainProblem) (a b c : List ℕ) → IsBetter p a b → IsBetter p b c → IsBetter p a c
better_transitive p a b c h k =
    elim h [
      | inl l ↦
          elim k [
            | inl m ↦ inl (below_transitive (score_of p a) (score_of p b) (score_of p c) l m)
            | inr m ↦ inl (below_same (score_of p a) (score_of p b) (score_of p c) l m.0)
          ]
      | inr s ↦
          elim k [
            | inl m ↦ inl (same_below (score_of p a) (score_of p b) (score_of p c) s.0 m)
            | inr m ↦ inr (same_transitive (score_of p a) (score_of p b) (score_of p c) s.0 m.0, before_transitive a b c s.1 m.1)
          ]
    ]

pub better_total : (p : PlainProblem) (n : ℕ) (a b : List ℕ) → Rising n 0 a → Rising n 0 b → IsBetter p a b ⊎ ((a ≡ b) ⊎ IsBetter p b a)
better_total p n a b ra rb =
    elim (score_cases (score_of p a) (score_of p b)) [
      | inl l ↦ inl (inl l)
      | inr k ↦
          elim k [
            | inl s ↦
                elim (before_total n a b ra rb) [
                  | inl f ↦ inl (inr (s, f))
                  | inr m ↦
                      elim m [
                        | inl e ↦ inr (inl e)
                        | inr f ↦ inr (inr (inr ((sym s.0, sym s.1), f)))
                      ]
                ]
            | inr g ↦ inr (inr (inl g))
          ]
    ]

both_best : (p : PlainProblem) (a b : List ℕ) → (a ≡ b) ⊎ IsBetter p b a → (b ≡ a) ⊎ IsBetter p a b → a ≡ b
both_best p a b h k =
    elim h [
      | inl e ↦ e
      | inr f ↦ elim k [ inl e ↦ sym e | inr g ↦ absurd (better_irreflexive p a (better_transitive p a b a g f)) ]
    ]

pub one_best_is : (p : PlainProblem) (a b : Option (List ℕ)) → IsBest p a → IsBest p b → a ≡ b
one_best_is p None None h k = refl
one_best_is p None (Some b) h k = absurd (h b k.0)
one_best_is p (Some a) None h k = absurd (k a h.0)
one_best_is p (Some a) (Some b) h k = ap (λ (q : List ℕ). Some q) (both_best p a b (k.1 a h.0) (h.1 b k.0))
