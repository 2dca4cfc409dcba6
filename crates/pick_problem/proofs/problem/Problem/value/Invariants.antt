use Rattle.pick_problem.proofs.SumLaws.{ValueSoFar}
use Rattle.pick_problem.proofs.problem.Problem.value.Given as goal

abbrev pub invariant-loop-place : goal.invariant-loop-place
invariant-loop-place l = ValueSoFar l.self l.places l.place-index l.sum
