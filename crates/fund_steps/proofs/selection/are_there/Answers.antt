use Rattle.std.proofs.Common.{◌∙◌, Option, ap, sym}
use Rattle.std.specs.Prelude.{not, option_map}
use Rattle.fund_base.specs.declared.outpoint.OutPoint.{OutPoint}
use Rattle.fund_steps.specs.declared.fault.PlanFault.TheVariants.{NotEligible}
use Rattle.fund_steps.proofs.StepLaws.{find_same}
use Rattle.fund_steps.proofs.selection.are_there.Goals as goal

pub returns-clause-missing : goal.returns-clause-missing
returns-clause-missing c = λ _.
    ap (λ (o : Option OutPoint). option_map NotEligible o) (sym (find_same _ _ c.args.points.now (λ q. ap not (c.in_ok-there.ensures q)))) ∙ c.in-Err.ensures.missing

pub returns-in-Ok-clause-there : goal.returns-in-Ok-clause-there
returns-in-Ok-clause-there c = sym (find_same _ _ c.args.points.now (λ q. ap not (c.in_ok-there.ensures q))) ∙ c.in-Ok.ensures.there
