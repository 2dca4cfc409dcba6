use Rattle.std.proofs.Common.{◌≡◌, ◌∙◌, sym, true, false}
use Rattle.std.specs.Prelude.{not}
use Rattle.std.proofs.lemmas.Bool.{not_from_false, not_from_true}
use Rattle.indexmap.specs.IndexSet.{contains}
use Rattle.fund_base.specs.Outpoints.{same_outpoint}
use Rattle.fund_base.specs.declared.outpoint.OutPoint.{OutPoint}
use Rattle.fund_steps.proofs.StepLaws.{find_here, find_on}
use Rattle.fund_steps.proofs.selection.missing.Goals as goal

pub returns-then-not-contains : goal.returns-then-not-contains
returns-then-not-contains c =
    let has : contains same_outpoint c.args.there.now c.point-item.result ≡ false = sym c.contains.ensures ∙ c.if-not-contains.true in
    find_here (λ (p : OutPoint). not (contains same_outpoint c.args.there.now p)) c.args.points.now c.loop-point.point-index c.point-item.result _ c.loop-point-test.true c.point-item.is (not_from_false _ has) c.loop-point.invariant

pub loop-point-preserved : goal.loop-point-preserved
loop-point-preserved c =
    let has : contains same_outpoint c.args.there.now c.point-item.result ≡ true = sym c.contains.ensures ∙ c.if-not-contains.false in
    find_on (λ (p : OutPoint). not (contains same_outpoint c.args.there.now p)) c.args.points.now c.loop-point.point-index c.point-item.result _ c.loop-point-test.true c.point-item.is (not_from_true _ has) c.loop-point.invariant
