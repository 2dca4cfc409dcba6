-- The usual selections without change are some of the wide ones.
use Rattle.std.specs.Prelude.{◌↔◌, ℕ, List, ◌≤ℤ◌, Some, None}
use Rattle.std.proofs.Common.{arith, ap, subst, inl, inr}
use Rattle.std.proofs.lemmas.Int.{ints}
use Rattle.pick_problem.specs.declared.item.Kind.{Kind}
use Rattle.pick_problem.specs.declared.item.Kind.TheVariants.{Changeless}
use Rattle.pick_problem.specs.Admissible.{Fits, IsAdmissible}
use Rattle.pick_problem.specs.Best.{IsBest}
use Rattle.pick_problem.specs.Problem.{PlainProblem}
use Rattle.pick_problem.proofs.WindowLaws.{window_part}
use Rattle.wide_check.specs.Wide.{IsWide, IsWideBest, IsWideProblem, waste_of}

pub admissible_wide : (p : PlainProblem) (q : List ℕ) → IsWideProblem p → IsAdmissible p q → IsWide p q
admissible_wide p q is good =
    let fits : Fits Changeless p q = subst (λ (k : Kind). Fits k p q) is.kind good.fits in
    record { some = good.some; rising = good.rising; reaches = good.reaches; under = fits.0; light = good.light }

pub wastes_no_more : (p : PlainProblem) (usual wide : List ℕ) → IsWideProblem p → IsBest p (Some usual) →
    IsWideBest p (Some wide) → waste_of p wide ≤ℤ waste_of p usual
wastes_no_more p usual wide is best wide_best =
    elim (wide_best.1 usual (admissible_wide p usual is best.0)) [
      | inl e ↦ omega (arith, ints, ap (waste_of p) e)
      | inr b ↦ elim b [ inl l ↦ omega (arith, ints, l) | inr s ↦ omega (arith, ints, s.0) ]
    ]

pub none_or_none : (p : PlainProblem) → IsWideProblem p → IsBest p None ↔ IsWideBest p None
none_or_none p is = (
  λ none q good.
      let part = window_part p is.problem is.kind q good.rising good.reaches good.under good.light in
      none part.0 part.2,
  λ none q good. none q (admissible_wide p q is good),
)
