-- The best selection so far, with its sums.
use Rattle.std.specs.Prelude.{◌≡◌, ℕ, ◌+◌, ◌≤◌, true, List, length, Option, Some, None, if◌then◌else◌}
use Rattle.std.specs.Vec.{vec_capacity}
use Rattle.pick_problem.specs.declared.item.Kind.TheVariants.{Changeless}
use Rattle.pick_problem.specs.Problem.{PlainProblem, value_of, weight_of}
use Rattle.pick_problem.specs.Score.{score_by}
use Rattle.walk_engine.specs.declared.best.Best.{Best}
use Rattle.walk_engine.specs.declared.best.Sums.{Sums}

abbrev pub plain_best : Best → Option (List ℕ)
plain_best b = if b.found then Some b.places.items else None

-- the waste of places, their weight, and what their value is above lo
pub record HasSums (p : PlainProblem) (q : List ℕ) (s : Sums) : Type 0 where
  pub waste : s.waste ≡ (score_by Changeless p q).first
  pub weight : s.weight ≡ weight_of p q
  pub excess : p.lo + s.excess ≡ value_of p q

-- the sums are those of the best, if there is one, and there is room for every place
pub record IsBestSoFar (p : PlainProblem) (b : Best) : Type 0 where
  pub sums : b.found ≡ true → HasSums p b.places.items b.sums
  pub room : length p.items ≤ vec_capacity b.places
