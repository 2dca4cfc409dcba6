use Rattle.indexmap.specs.IndexSet.{contains}
use Rattle.fund_base.specs.Outpoints.{same_outpoint}
use Rattle.fund_steps.proofs.StepLaws.{set_more}
use Rattle.fund_steps.proofs.selection.set_of.Goals as goal

pub loop-point-preserved : goal.loop-point-preserved
loop-point-preserved c = λ q.
    set_more (λ p. same_outpoint p q) c.args.points.now c.loop-point.point-index c.point-item.result (contains same_outpoint c.loop-point.set q) (contains same_outpoint c.insert.new.self q) c.loop-point-test.true c.point-item.is
    (c.in_ok-insert.ensures.updates.0 q) (c.loop-point.invariant q)
