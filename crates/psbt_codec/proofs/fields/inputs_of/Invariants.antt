use Rattle.psbt_codec.proofs.FieldLoops.{InputsSoFar}
use Rattle.psbt_codec.proofs.fields.inputs_of.Given as goal

abbrev pub invariant-loop-number : goal.invariant-loop-number
invariant-loop-number l = InputsSoFar l.count l.fn.cursor l.told l.number l.cursor
