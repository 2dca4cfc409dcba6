use Rattle.std.specs.Map.{lookup}
use Rattle.fund_base.specs.Outpoints.{same_outpoint}
use Rattle.fund_base.specs.declared.outpoint.OutPoint.{OutPoint}
use Rattle.report_check.proofs.FindingLaws.{IsPlaceSoFar}
use Rattle.report_check.proofs.coin_index.places_of.Given as goal

abbrev pub invariant-placing : goal.invariant-placing
invariant-placing l = (point : OutPoint) → IsPlaceSoFar l.coins l.i point (lookup (same_outpoint point) l.places.entries)
