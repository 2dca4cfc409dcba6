use Rattle.std.proofs.Common.{◌≡◌, take}
use Rattle.indexmap.specs.IndexSet.{contains}
use Rattle.fund_base.specs.Outpoints.{same_outpoint}
use Rattle.fund_base.specs.declared.outpoint.OutPoint.{OutPoint}
use Rattle.desk_machine.specs.State.{is_reserved}
use Rattle.fund_desk.proofs.payments.reserved_of.Given as goal

abbrev pub invariant-loop-payment : goal.invariant-loop-payment
invariant-loop-payment l = (o : OutPoint) → contains same_outpoint l.set o ≡ is_reserved (take l.payment-index l.committed) o
