use Rattle.std.proofs.Common.{ℕ, ◌-◌, ◌<◌, get_or}
use Rattle.pick_problem.specs.Pool.{item_at}
use Rattle.pick_problem.specs.Problem.{value_of}
use Rattle.pick_problem.proofs.problem.Problem.needs_each.Given as goal

abbrev pub invariant-loop-place : goal.invariant-loop-place
invariant-loop-place l = (k : ℕ) → k < l.place-index → value_of l.self l.places - (item_at l.items (get_or l.places k 0)).value < l.self.lo
