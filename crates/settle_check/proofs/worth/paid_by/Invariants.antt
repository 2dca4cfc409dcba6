use Rattle.std.proofs.Common.{◌≡◌, take}
use Rattle.settle_check.specs.Settled.{worth_of}
use Rattle.settle_check.proofs.worth.paid_by.Given as goal

abbrev pub invariant-loop-output : goal.invariant-loop-output
invariant-loop-output l = l.sum ≡ worth_of (take l.output-index l.outputs)
