use Rattle.settle_check.proofs.SpareLaws.{WorthSoFar}
use Rattle.settle_check.proofs.worth.worth_of.Given as goal

abbrev pub invariant-loop-output : goal.invariant-loop-output
invariant-loop-output l = WorthSoFar l.outputs l.output-index l.sum
