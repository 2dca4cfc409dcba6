-- The chosen places of a search, with their sums.
use Rattle.std.specs.Prelude.{◌≡◌, ℕ, ◌≤◌, List, [], ◌∷◌, ◌++◌, length, pos, neg_ℤ, ◌≤ℤ◌}
use Rattle.std.specs.Vec.{vec_capacity}
use Rattle.pick_problem.specs.Problem.{PlainProblem, Rising, value_of, weight_of, cost_of}
use Rattle.wide_search.specs.declared.stack.Stack.{Stack}
use Rattle.wide_search.specs.declared.sums.Sums.{Sums}

-- what the sums of any places are at most, and at least
pub record AreSmall (s : Sums) : Type 0 where
  pub small_value : s.value ≤ 2_100_000_000_000_000_000_000
  pub small_weight : s.weight ≤ 400_000_000_000
  pub low_cost : neg_ℤ (pos 100_000_000_000_000_000) ≤ℤ s.cost
  pub high_cost : s.cost ≤ℤ pos 10_000_000_000_000_000_000_000

-- the sums of places
pub record AreSums (p : PlainProblem) (q : List ℕ) (s : Sums) : Type 0 where
  pub value : s.value ≡ value_of p q
  pub weight : s.weight ≡ weight_of p q
  pub cost : s.cost ≡ cost_of p q
  pub small : AreSmall s

-- the chosen places rise below the next one, their sums are known, and there is room for every place
pub record IsStack (p : PlainProblem) (next : ℕ) (s : Stack) : Type 0 where
  pub rising : Rising next 0 s.places.items
  pub sums : AreSums p s.places.items s.sums
  pub room : length p.items ≤ vec_capacity s.places

-- the chosen places with one more
abbrev pub with_place : Stack → ℕ → List ℕ
with_place s t = s.places.items ++ t ∷ []
