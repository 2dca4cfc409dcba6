use Rattle.std.specs.Prelude.{not}
use Rattle.std.proofs.Common.{◌∙◌, sym, subst}
use Rattle.coin_candidates.specs.Candidates.{AreCandidates}
use Rattle.fund_steps.proofs.RowLaws.{filter_candidates}
use Rattle.fund_steps.specs.BasisOf.{IsBasisOf}
use Rattle.fund_steps.specs.Plan.{PlainPlan}
use Rattle.fund_steps.specs.Selection.{is_listed}
use Rattle.fund_steps.proofs.plan_basis.PlanBasis.rest.Goals as goal

pub returns-clause-candidates : goal.returns-clause-candidates
returns-clause-candidates c =
    let i = c.self.inside in
    let kept = subst (λ (p : PlainPlan). IsBasisOf p i.presets.items i.rest.items i.rates i.load) c.self.view_is c.self.invariant in
    subst AreCandidates (sym (c.as_slice.ensures.value ∙ kept.rest_is)) (filter_candidates (λ x. not (is_listed c.args.self.now.request.coins x.coin)) c.args.self.now.candidates kept.plan.candidates)
