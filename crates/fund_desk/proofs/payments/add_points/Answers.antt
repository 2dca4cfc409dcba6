use Rattle.std.proofs.Common.{◌∙◌, ◌||◌, Bool, true, cond, take, get_or, sym, ap}
use Rattle.std.proofs.lemmas.List.Folds.{list_any_more}
use Rattle.indexmap.specs.IndexSet.{contains}
use Rattle.fund_base.specs.Outpoints.{same_outpoint}
use Rattle.fund_base.specs.declared.outpoint.OutPoint.{OutPoint}
use Rattle.desk_machine.specs.State.{has_point}
use Rattle.fund_files.proofs.SetLaws.{join, none_more}
use Rattle.fund_desk.proofs.payments.add_points.Goals as goal

pub loop-point-init : goal.loop-point-init
loop-point-init c = λ o. none_more (contains same_outpoint c.args.set.now o)

pub loop-point-preserved : goal.loop-point-preserved
loop-point-preserved c = λ o.
    let p : OutPoint → Bool = λ x. same_outpoint x o in
    let xs = c.args.points.now in
    let i = c.loop-point.point-index in
    let old = contains same_outpoint c.args.set.now o in
    c.in_ok-insert.ensures.updates.0 o
    ∙ (λ k. cond (ap p c.point-item.is k) true (c.loop-point.invariant o k))
    ∙ join (p (get_or xs i c.point-item.result)) old (has_point (take i xs) o)
    ∙ ap (λ b. old || b) (sym (list_any_more p xs i c.point-item.result c.loop-point-test.true))
