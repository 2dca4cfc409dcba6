use Rattle.std.proofs.Common.{◌≡◌, take}
use Rattle.indexmap.specs.IndexSet.{contains}
use Rattle.fund_base.specs.Outpoints.{same_outpoint}
use Rattle.fund_base.specs.declared.outpoint.OutPoint.{OutPoint}
use Rattle.fund_steps.specs.Selection.{is_listed}
use Rattle.fund_steps.proofs.selection.set_of.Given as goal

abbrev pub invariant-loop-point : goal.invariant-loop-point
invariant-loop-point l = (q : OutPoint) → contains same_outpoint l.set q ≡ is_listed (take l.point-index l.points) q
