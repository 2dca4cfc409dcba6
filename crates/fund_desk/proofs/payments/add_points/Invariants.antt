use Rattle.std.proofs.Common.{◌≡◌, ◌||◌, take}
use Rattle.indexmap.specs.IndexSet.{contains}
use Rattle.fund_base.specs.Outpoints.{same_outpoint}
use Rattle.fund_base.specs.declared.outpoint.OutPoint.{OutPoint}
use Rattle.desk_machine.specs.State.{has_point}
use Rattle.fund_desk.proofs.payments.add_points.Given as goal

abbrev pub invariant-loop-point : goal.invariant-loop-point
invariant-loop-point l = (o : OutPoint) → contains same_outpoint l.set o ≡ (contains same_outpoint l.initial.set o || has_point (take l.point-index l.points) o)
