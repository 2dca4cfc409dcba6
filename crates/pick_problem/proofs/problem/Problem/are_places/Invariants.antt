use Rattle.std.proofs.Common.{length, ◌↔◌}
use Rattle.pick_problem.specs.Problem.{Rising}
use Rattle.pick_problem.proofs.problem.Problem.are_places.Given as goal

abbrev pub invariant-rising : goal.invariant-rising
invariant-rising l = Rising (length l.self.items) l.least l.rest ↔ Rising (length l.self.items) 0 l.places

abbrev pub decreases-rising : goal.decreases-rising
decreases-rising l = length l.rest
