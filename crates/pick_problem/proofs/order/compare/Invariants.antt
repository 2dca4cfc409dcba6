use Rattle.std.proofs.Common.{◌≡◌, length}
use Rattle.pick_problem.specs.Best.{comes_before}
use Rattle.pick_problem.proofs.order.compare.Given as goal

abbrev pub invariant-comparing : goal.invariant-comparing
invariant-comparing l = comes_before l.left l.right ≡ comes_before l.a l.b

abbrev pub decreases-comparing : goal.decreases-comparing
decreases-comparing l = length l.left
