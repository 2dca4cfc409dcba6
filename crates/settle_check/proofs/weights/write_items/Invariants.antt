use Rattle.std.proofs.Common.{◌++◌, length, take}
use Rattle.std.specs.List.{flat_map}
use Rattle.fund_base.specs.CompactSize.{compact, prefixed}
use Rattle.fund_base.specs.Writer.{Feeds}
use Rattle.tx_codec.specs.Stack.{lists}
use Rattle.settle_check.proofs.weights.write_items.Given as goal

abbrev pub invariant-loop-item : goal.invariant-loop-item
invariant-loop-item g l = Feeds g.W.Writer.holds l.fn.out l.out (compact (length l.items) ++ flat_map prefixed (lists (take l.item-index l.items)))
