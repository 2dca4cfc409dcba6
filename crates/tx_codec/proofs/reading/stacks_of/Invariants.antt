use Rattle.tx_codec.proofs.Stacks.{StacksSoFar}
use Rattle.tx_codec.proofs.reading.stacks_of.Given as goal

abbrev pub invariant-loop-input : goal.invariant-loop-input
invariant-loop-input l = StacksSoFar l.fn.inputs l.fn.cursor l.input-items l.input-index l.cursor
