use Rattle.fund_base.proofs.Repeat.{SoFar}
use Rattle.tx_codec.specs.Reading.{item_at}
use Rattle.tx_codec.specs.Stack.{lists}
use Rattle.signed_psbt.proofs.stack.items_of.Given as goal

abbrev pub invariant-loop : goal.invariant-loop
invariant-loop l = SoFar (λ _. item_at) l.count l.fn.cursor (lists l.items.items) l.counter l.cursor
