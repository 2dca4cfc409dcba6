use Rattle.std.proofs.Common.{◌≡◌, take}
use Rattle.std.specs.Map.{lookup}
use Rattle.fund_base.specs.Outpoints.{same_outpoint}
use Rattle.tx_codec.specs.declared.tx.TxIn.{TxIn}
use Rattle.payment_states.specs.Least.{least_by}
use Rattle.payment_states.proofs.replaced.nearest_of.Given as goal

abbrev pub invariant-loop-input : goal.invariant-loop-input
invariant-loop-input l = l.least ≡ least_by (λ (i : TxIn). lookup (same_outpoint i.prev) l.nearest.entries) (take l.input-index l.inputs)
