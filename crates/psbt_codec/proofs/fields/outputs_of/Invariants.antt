use Rattle.psbt_codec.proofs.FieldLoops.{OutputsSoFar}
use Rattle.psbt_codec.proofs.fields.outputs_of.Given as goal

abbrev pub invariant-loop-number : goal.invariant-loop-number
invariant-loop-number l = OutputsSoFar l.count l.fn.cursor l.outputs.items l.number l.sum l.cursor
