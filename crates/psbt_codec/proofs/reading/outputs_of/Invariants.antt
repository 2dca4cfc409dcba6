use Rattle.psbt_codec.proofs.EachLaws.{EachSoFar}
use Rattle.psbt_codec.specs.Reading.{next_output_at}
use Rattle.psbt_codec.proofs.reading.outputs_of.Given as goal

abbrev pub invariant-loop-output : goal.invariant-loop-output
invariant-loop-output l = EachSoFar next_output_at tt l.outputs l.fn.cursor tt l._output-index l.cursor
