-- What it means that a score is lower.
use Rattle.std.specs.Prelude.{◌≡◌, ℕ, ℤ, pos, ◌-◌, ◌<◌, ◌≤◌, ◌⊎◌, ◌↔◌, ◌+ℤ◌, ◌-ℤ◌, ◌<ℤ◌, List}
use Rattle.std.proofs.Common.{arith, sym, subst, inl, inr}
use Rattle.std.proofs.lemmas.Int.{ints}
use Rattle.pick_problem.specs.declared.item.Kind.{Kind}
use Rattle.pick_problem.specs.declared.item.Kind.TheVariants.{Changeless, Lean}
use Rattle.pick_problem.specs.Problem.{PlainProblem, cost_of, value_of, weight_of}
use Rattle.pick_problem.specs.Score.{IsBelow, score_by, score_of}
use Rattle.pick_problem.specs.Waste.{changeless_waste}

wastes_less : (c d : ℤ) (v w lo : ℕ) → lo ≤ v → lo ≤ w → ((c +ℤ pos v) -ℤ pos lo) <ℤ ((d +ℤ pos w) -ℤ pos lo) → (c +ℤ pos (v - lo)) <ℤ (d +ℤ pos (w - lo))
wastes_less c d v w lo low low_too h = omega (arith, ints, low, low_too, h)

less_wastes : (c d : ℤ) (v w lo : ℕ) → lo ≤ v → lo ≤ w → (c +ℤ pos (v - lo)) <ℤ (d +ℤ pos (w - lo)) → ((c +ℤ pos v) -ℤ pos lo) <ℤ ((d +ℤ pos w) -ℤ pos lo)
less_wastes c d v w lo low low_too h = omega (arith, ints, low, low_too, h)

pub below_without_change : (p : PlainProblem) (q r : List ℕ) → p.kind ≡ Changeless → p.lo ≤ value_of p q → p.lo ≤ value_of p r → (IsBelow (score_of p q) (score_of p r) ↔ (changeless_waste p q <ℤ changeless_waste p r))
below_without_change p q r kind low low_too =
    let P : Kind → Type 0 = λ k. IsBelow (score_by k p q) (score_by k p r) ↔ (changeless_waste p q <ℤ changeless_waste p r) in
    subst P (sym kind) (
      λ h. elim h [
        | inl less ↦ wastes_less (cost_of p q) (cost_of p r) (value_of p q) (value_of p r) p.lo low low_too less
        | inr tie ↦ absurd (omega (arith, tie.1))
      ],
      λ h. inl (less_wastes (cost_of p q) (cost_of p r) (value_of p q) (value_of p r) p.lo low low_too h),
    )

pub below_with_change : (p : PlainProblem) (q r : List ℕ) → p.kind ≡ Lean → (IsBelow (score_of p q) (score_of p r) ↔ ((weight_of p q < weight_of p r) ⊎ ((weight_of p q ≡ weight_of p r) × (value_of p q < value_of p r))))
below_with_change p q r kind =
    let P : Kind → Type 0 = λ k. IsBelow (score_by k p q) (score_by k p r) ↔ ((weight_of p q < weight_of p r) ⊎ ((weight_of p q ≡ weight_of p r) × (value_of p q < value_of p r))) in
    subst P (sym kind) (
      λ h. elim h [ inl less ↦ inl (omega (arith, ints, less)) | inr tie ↦ inr (omega (arith, ints, tie.0), tie.1) ],
      λ h. elim h [ inl less ↦ inl (omega (arith, ints, less)) | inr tie ↦ inr (omega (arith, ints, tie.0), tie.1) ],
    )
