use Rattle.pick_problem.proofs.SumLaws.{WeightSoFar}
use Rattle.pick_problem.proofs.problem.Problem.weight.Given as goal

abbrev pub invariant-loop-place : goal.invariant-loop-place
invariant-loop-place l = WeightSoFar l.self l.places l.place-index l.sum
