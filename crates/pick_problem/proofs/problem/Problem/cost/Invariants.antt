use Rattle.pick_problem.proofs.SumLaws.{CostSoFar}
use Rattle.pick_problem.proofs.problem.Problem.cost.Given as goal

abbrev pub invariant-loop-place : goal.invariant-loop-place
invariant-loop-place l = CostSoFar l.self l.places l.place-index l.sum
