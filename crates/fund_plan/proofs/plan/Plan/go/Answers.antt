use Rattle.std.proofs.Common.{◌∙◌, ap, sym}
use Rattle.closing_log.specs.declared.mark.Mark.TheVariants as mark
use Rattle.fund_steps.specs.Plan.{PlainPlan}
use Rattle.fund_plan.specs.Chosen.{funded_at}
use Rattle.fund_plan.specs.Selection.{PlainFunded}
use Rattle.fund_plan.specs.State.{PlanState}
use Rattle.fund_plan.specs.declared.outcome.Outcome.TheVariants.{Funded}
use Rattle.fund_plan.proofs.EndLaws.{told_partial}
use Rattle.fund_plan.proofs.plan.Plan.go.Goals as goal

pub returns-in-Some-clause-told : goal.returns-in-Some-clause-told
returns-in-Some-clause-told c =
    let plan = ap (λ (x : PlanState). x.plan) c.self.view_is in
    let some = sym (ap (λ (x : PlanState). x.partial) c.self.view_is) ∙ c.in-Some.is in
    ap (λ (x : PlainFunded). Funded x) (c.in_ok-funded.ensures.value ∙ ap (λ (p : PlainPlan). funded_at p mark.Partial c.in-Some.found) plan)
    ∙ told_partial c.args.self.now c.in-Some.found some
