use Rattle.settle_check.specs.Settled.{true_weight_of}
use Rattle.settle_check.proofs.SpareLaws.{SpareSoFar}
use Rattle.settle_check.proofs.weights.spare.Given as goal

abbrev pub invariant-loop-i : goal.invariant-loop-i
invariant-loop-i l = SpareSoFar (true_weight_of l.signed.segwit) l.declared l.signed.inputs l.i l.spare
