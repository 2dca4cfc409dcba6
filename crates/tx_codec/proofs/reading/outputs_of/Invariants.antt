use Rattle.tx_codec.proofs.Outputs.{OutputsSoFar}
use Rattle.tx_codec.proofs.reading.outputs_of.Given as goal

abbrev pub invariant-loop-index : goal.invariant-loop-index
invariant-loop-index l = OutputsSoFar l.count l.fn.cursor l.outputs.items l.index l.sum l.cursor
