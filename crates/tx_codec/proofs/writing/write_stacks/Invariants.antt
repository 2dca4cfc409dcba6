use Rattle.std.proofs.Common.{take}
use Rattle.std.specs.List.{flat_map}
use Rattle.fund_base.specs.Writer.{Feeds}
use Rattle.tx_codec.specs.TransactionText.{stack_text}
use Rattle.tx_codec.proofs.writing.write_stacks.Given as goal

abbrev pub invariant-loop-input : goal.invariant-loop-input
invariant-loop-input g l = Feeds g.W.Writer.holds l.fn.out l.out (flat_map stack_text (take l.input-index l.inputs))
