use Rattle.tx_codec.proofs.PassSteps.{WorthSoFar}
use Rattle.tx_codec.proofs.passing.pass_outputs.Given as goal

abbrev pub invariant-loop-index : goal.invariant-loop-index
invariant-loop-index l = WorthSoFar l.count l.fn.cursor l.index l.sum l.cursor
