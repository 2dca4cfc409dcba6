-- The best selection so far, with its waste.
use Rattle.std.specs.Prelude.{◌≡◌, ℕ, ◌≤◌, true, List, length, Option, Some, None, if◌then◌else◌}
use Rattle.std.specs.Vec.{vec_capacity}
use Rattle.pick_problem.specs.Problem.{PlainProblem}
use Rattle.wide_check.specs.Wide.{waste_of}
use Rattle.wide_search.specs.declared.best.Best.{Best}

abbrev pub plain_best : Best → Option (List ℕ)
plain_best b = if b.found then Some b.places.items else None

-- the waste is that of the best, if there is one, and there is room for every place
pub record IsBestSoFar (p : PlainProblem) (b : Best) : Type 0 where
  pub waste : b.found ≡ true → b.waste ≡ waste_of p b.places.items
  pub room : length p.items ≤ vec_capacity b.places
