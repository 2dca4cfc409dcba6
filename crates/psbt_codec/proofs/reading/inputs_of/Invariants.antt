use Rattle.std.proofs.Common.{[]}
use Rattle.psbt_codec.proofs.EachLaws.{EachSoFar}
use Rattle.psbt_codec.specs.Reading.{next_input_at}
use Rattle.psbt_codec.proofs.reading.inputs_of.Given as goal

abbrev pub invariant-loop-input : goal.invariant-loop-input
invariant-loop-input l = EachSoFar next_input_at [] l.inputs l.fn.cursor l.spent.items l.input-index l.cursor
