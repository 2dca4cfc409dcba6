use Rattle.std.proofs.Common.{◌++◌, length, take}
use Rattle.std.specs.List.{flat_map}
use Rattle.fund_base.specs.CompactSize.{compact}
use Rattle.fund_base.specs.Writer.{Feeds}
use Rattle.tx_codec.specs.TransactionText.{input_text}
use Rattle.tx_codec.proofs.writing.write_inputs.Given as goal

abbrev pub invariant-loop-input : goal.invariant-loop-input
invariant-loop-input g l = Feeds g.W.Writer.holds l.fn.out l.out (compact (length l.inputs) ++ flat_map input_text (take l.input-index l.inputs))
