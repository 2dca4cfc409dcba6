-- Problems, and the sums of lists of places.
use Rattle.std.specs.Prelude.{◌≡◌, ℕ, ◌+◌, ◌^◌, ◌<◌, ◌≤◌, List, [], ◌∷◌, ℤ, pos, ◌+ℤ◌}
use Rattle.pick_problem.specs.declared.item.Item.{Item}
use Rattle.pick_problem.specs.declared.item.Kind.{Kind}
use Rattle.pick_problem.specs.declared.item.Kind.TheVariants.{Changeless, Lean}
use Rattle.pick_problem.specs.Pool.{AreItems, item_at}

-- a pool, and what a selection of its places is to reach
pub record PlainProblem : Type 0 where
  pub items : List Item
  pub lo : ℕ
  pub hi : ℕ
  pub most_weight : ℕ
  pub kind : Kind

-- hi is no less than lo; for Lean it isn't used, and equals lo
abbrev pub AreBounds : Kind → ℕ → ℕ → Type 0
AreBounds Changeless lo hi = lo ≤ hi
AreBounds Lean lo hi = hi ≡ lo

-- what each problem keeps
pub record IsProblem (p : PlainProblem) : Type 0 where
  pub items : AreItems p.items
  pub some : 1 ≤ p.lo
  pub bounds : AreBounds p.kind p.lo p.hi
  pub lo_fits : p.lo < 2 ^ 64
  pub hi_fits : p.hi < 2 ^ 64
  pub weight_fits : p.most_weight < 2 ^ 64

-- places that rise, each at least t and below n
abbrev pub Rising : ℕ → ℕ → List ℕ → Type 0
Rising n t [] = Unit {0}
Rising n t (j ∷ js) = (t ≤ j) × (j < n) × Rising n (j + 1) js

-- the value, the weight and the cost of the items at places, each summed from nothing
abbrev pub value_of : PlainProblem → List ℕ → ℕ
value_of p [] = 0
value_of p (j ∷ js) = (item_at p.items j).value + value_of p js

abbrev pub weight_of : PlainProblem → List ℕ → ℕ
weight_of p [] = 0
weight_of p (j ∷ js) = (item_at p.items j).weight + weight_of p js

abbrev pub cost_of : PlainProblem → List ℕ → ℤ
cost_of p [] = pos 0
cost_of p (j ∷ js) = (item_at p.items j).cost +ℤ cost_of p js
