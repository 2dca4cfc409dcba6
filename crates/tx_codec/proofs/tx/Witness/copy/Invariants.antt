use Rattle.std.proofs.Common.{◌≡◌, take}
use Rattle.tx_codec.specs.Stack.{lists}
use Rattle.tx_codec.proofs.tx.Witness.copy.Given as goal

abbrev pub invariant-loop-item : goal.invariant-loop-item
invariant-loop-item l = lists l.items.items ≡ lists (take l.item-index l.item-items)
