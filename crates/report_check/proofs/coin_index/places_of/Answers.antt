use Rattle.std.specs.Map.{lookup}
use Rattle.fund_base.specs.Outpoints.{same_outpoint}
use Rattle.report_check.proofs.FindingLaws.{place_first, place_next, place_over}
use Rattle.report_check.proofs.coin_index.places_of.Goals as goal

pub placing-init : goal.placing-init
placing-init c = λ point. place_first c.args.coins.now point c.new-places.result.entries c.new-places.ensures.empty

pub placing-preserved : goal.placing-preserved
placing-preserved c = λ point.
    place_next c.args.coins.now point c.placing.i c.index-coins-i.result (lookup (same_outpoint point) c.placing.places.entries) (lookup (same_outpoint point) c.insert.new.self.entries) c.placing-test.true c.index-coins-i.is
    (c.in_ok-insert.ensures.updates.0 point) (c.placing.invariant point)

pub returns : goal.returns
returns c = λ point. place_over c.args.coins.now point c.placing.i (lookup (same_outpoint point) c.placing.places.entries) c.placing-test.false (c.placing.invariant point)
