use Rattle.std.proofs.Common.{subst, ◌∙◌}
use Rattle.fund_steps.specs.BasisOf.{IsBasisOf}
use Rattle.fund_steps.specs.Plan.{PlainPlan}
use Rattle.fund_steps.proofs.MakingLaws.{kept_alone}
use Rattle.fund_steps.proofs.plan_basis.PlanBasis.alone.Goals as goal

pub returns : goal.returns
returns c =
    let i = c.self.inside in
    let kept = subst (λ (p : PlainPlan). IsBasisOf p i.presets.items i.rest.items i.rates i.load) c.self.view_is c.self.invariant in
    c.presets_alone.ensures ∙ kept_alone c.args.self.now i.presets.items i.rest.items i.rates i.load kept
