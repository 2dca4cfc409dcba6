-- The score of a selection.
use Rattle.std.specs.Prelude.{◌≡◌, ℕ, ◌<◌, ◌⊎◌, List, pos, ◌+ℤ◌, ◌-ℤ◌, ◌<ℤ◌}
use Rattle.pick_problem.specs.declared.item.Kind.{Kind}
use Rattle.pick_problem.specs.declared.item.Kind.TheVariants.{Changeless, Lean}
use Rattle.pick_problem.specs.declared.score.Score.{Score}
use Rattle.pick_problem.specs.Problem.{PlainProblem, value_of, weight_of, cost_of}

-- without change the waste: the cost, and the excess over lo, which goes to the fee; else the weight, then the value
abbrev pub score_by : Kind → PlainProblem → List ℕ → Score
score_by Changeless p q = record { first = (cost_of p q +ℤ pos (value_of p q)) -ℤ pos p.lo; second = 0 }
score_by Lean p q = record { first = pos (weight_of p q); second = value_of p q }

abbrev pub score_of : PlainProblem → List ℕ → Score
score_of p q = score_by p.kind p q

-- scores are compared by the first number, then by the second
abbrev pub IsBelow : Score → Score → Type 0
IsBelow x y = (x.first <ℤ y.first) ⊎ ((x.first ≡ y.first) × (x.second < y.second))

abbrev pub IsSame : Score → Score → Type 0
IsSame x y = (x.first ≡ y.first) × (x.second ≡ y.second)
