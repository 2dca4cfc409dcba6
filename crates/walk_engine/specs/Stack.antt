-- The chosen places of a search, with their sums.
use Rattle.std.specs.Prelude.{◌≡◌, ℕ, ◌+◌, ◌≤◌, List, [], ◌∷◌, ◌++◌, length}
use Rattle.std.specs.Vec.{vec_capacity}
use Rattle.pick_problem.specs.Problem.{PlainProblem, Rising, value_of, weight_of, cost_of}
use Rattle.walk_engine.specs.declared.stack.Stack.{Stack}

-- the chosen places rise below the next place; their value and the gap make lo; weight and cost are theirs; and there
-- is room for every place
pub record IsStack (p : PlainProblem) (next : ℕ) (s : Stack) : Type 0 where
  pub rising : Rising next 0 s.places.items
  pub gap : value_of p s.places.items + s.gap ≡ p.lo
  pub weight : s.weight ≡ weight_of p s.places.items
  pub cost : s.cost ≡ cost_of p s.places.items
  pub room : length p.items ≤ vec_capacity s.places

-- the chosen places with one more
abbrev pub with_place : Stack → ℕ → List ℕ
with_place s t = s.places.items ++ t ∷ []
