-- What a pool has from a place on, and its runs of twins.
use Rattle.std.specs.Prelude.{ℕ, ◌+◌, ◌-◌, ◌==◌, ◌&&◌, Bool, List, [], ◌∷◌, min, drop, All, pos, ◌≤ℤ◌}
use Rattle.std.specs.List.{prefix_len}
use Rattle.std.specs.Ordering.{int_eq}
use Rattle.pick_problem.specs.declared.item.Item.{Item}
use Rattle.pick_problem.specs.declared.item.Kind.{Kind}
use Rattle.pick_problem.specs.declared.item.Kind.TheVariants.{Changeless, Lean}
use Rattle.pick_problem.specs.Pool.{item_at}
use Rattle.pick_problem.specs.Problem.{PlainProblem}

abbrev pub total_value : List Item → ℕ
total_value [] = 0
total_value (x ∷ xs) = x.value + total_value xs

-- the value of all places from t on
abbrev pub later_value : PlainProblem → ℕ → ℕ
later_value p t = total_value (drop t p.items)

abbrev pub least : List Item → ℕ
least [] = 0
least (x ∷ []) = x.weight
least (x ∷ y ∷ ys) = min x.weight (least (y ∷ ys))

-- the least weight of a place from t on
abbrev pub least_weight : PlainProblem → ℕ → ℕ
least_weight p t = least (drop t p.items)

-- no cost in the whole pool is negative
abbrev pub NoNegative : PlainProblem → Type 0
NoNegative p = All (λ x. pos 0 ≤ℤ x.cost) p.items

-- whether two items are twins, of which one may stand for the other: for Changeless their numbers are equal, for
-- Lean their values
abbrev pub is_twin : Kind → Item → Item → Bool
is_twin Changeless x y = (x.value == y.value) && ((x.weight == y.weight) && int_eq x.cost y.cost)
is_twin Lean x y = x.value == y.value

-- the first place from t on that is no twin of t - 1, or the number of places
abbrev pub behind_twins : PlainProblem → ℕ → ℕ
behind_twins p t = t + prefix_len (is_twin p.kind (item_at p.items (t - 1))) (drop t p.items)
