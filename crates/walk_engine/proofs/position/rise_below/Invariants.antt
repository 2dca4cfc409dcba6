use Rattle.std.proofs.Common.{length, ◌↔◌}
use Rattle.pick_problem.specs.Problem.{Rising}
use Rattle.walk_engine.proofs.position.rise_below.Given as goal

abbrev pub invariant-rising : goal.invariant-rising
invariant-rising l = Rising l.bound l.least l.rest ↔ Rising l.bound 0 l.places

abbrev pub decreases-rising : goal.decreases-rising
decreases-rising l = length l.rest
