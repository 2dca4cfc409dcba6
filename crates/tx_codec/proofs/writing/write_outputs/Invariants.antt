use Rattle.std.proofs.Common.{◌++◌, length, take}
use Rattle.std.specs.List.{flat_map}
use Rattle.fund_base.specs.CompactSize.{compact}
use Rattle.fund_base.specs.Writer.{Feeds}
use Rattle.tx_codec.specs.TransactionText.{output_text}
use Rattle.tx_codec.proofs.writing.write_outputs.Given as goal

abbrev pub invariant-loop-output : goal.invariant-loop-output
invariant-loop-output g l = Feeds g.W.Writer.holds l.fn.out l.out (compact (length l.outputs) ++ flat_map output_text (take l.output-index l.outputs))
