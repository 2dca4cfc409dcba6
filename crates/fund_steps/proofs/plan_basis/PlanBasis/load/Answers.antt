use Rattle.std.proofs.Common.{◌∙◌, List, ap, subst}
use Rattle.coin_candidates.specs.declared.candidate.Candidate.{Candidate}
use Rattle.fund_steps.proofs.MakingLaws.{load_is_alone}
use Rattle.fund_steps.specs.Listed.{burden_in}
use Rattle.fund_steps.specs.BasisOf.{IsBasisOf}
use Rattle.fund_steps.specs.Plan.{PlainPlan}
use Rattle.fund_steps.specs.Terms.{load_of}
use Rattle.fund_steps.proofs.plan_basis.PlanBasis.load.Goals as goal

pub returns-clause-value : goal.returns-clause-value
returns-clause-value c =
    let i = c.self.inside in
    let kept = subst (λ (p : PlainPlan). IsBasisOf p i.presets.items i.rest.items i.rates i.load) c.self.view_is c.self.invariant in
    kept.load_is ∙ ap (λ (cs : List Candidate). load_of c.args.self.now.request c.args.self.now.change cs (burden_in c.args.self.now)) kept.presets_are

pub returns-clause-alone : goal.returns-clause-alone
returns-clause-alone c =
    let i = c.self.inside in
    let kept = subst (λ (p : PlainPlan). IsBasisOf p i.presets.items i.rest.items i.rates i.load) c.self.view_is c.self.invariant in
    load_is_alone c.args.self.now i.presets.items i.load kept.load_is kept.presets_are
