use Rattle.std.proofs.Common.{List, ap, ◌∙◌}
use Rattle.fund_base.specs.declared.outpoint.OutPoint.{OutPoint}
use Rattle.fund_steps.specs.Selection.{is_listed}
use Rattle.fund_steps.proofs.selection.points_in.Goals as goal

pub returns : goal.returns
returns c = λ q. c.in_ok-set.ensures q ∙ ap (λ (ps : List OutPoint). is_listed ps q) (c.deref.ensures.value ∙ c.in_ok-points.ensures)
