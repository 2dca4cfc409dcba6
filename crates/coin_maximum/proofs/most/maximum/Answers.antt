use Rattle.std.proofs.Common.{◌∙◌, ap, sym}
use Rattle.std.specs.Prelude.{is_some}
use Rattle.request_text.specs.PlainRequest.{PlainRequest}
use Rattle.fund_steps.specs.Plan.{PlainPlan}
use Rattle.coin_maximum.specs.Maximum.{plan_with}
use Rattle.coin_maximum.proofs.MostLaws.{maximum_is, no_bump, passed_on, refused_is}
use Rattle.coin_maximum.proofs.most.maximum.Goals as goal

pub returns-in-Ok : goal.returns-in-Ok
returns-in-Ok c =
    let p : PlainPlan = plan_with c.args.request.now c.args.change.now c.args.candidates.items in
    let left = passed_on c.left.result c.left.ensures.low c.left.ensures.high ∙ c.left.ensures.value in
    let bump = no_bump p.request.bump (sym (ap (λ (q : PlainRequest). is_some q.bump) c.request.view_is) ∙ sym c.is_some.ensures ∙ c.if-is_some.false) in
    maximum_is p c.in-Ok.field-0.funds _ c.amount.result bump c.in-Ok.ensures.made c.left.ensures.plan left c.amount.ensures.some c.amount.ensures.none

pub returns : goal.returns
returns c = refused_is (plan_with c.args.request.now c.args.change.now c.args.candidates.items) c.in-Err.fault c.refused.result c.in-Err.ensures.fault c.refused.ensures
