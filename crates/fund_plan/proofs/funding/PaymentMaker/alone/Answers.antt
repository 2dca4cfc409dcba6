use Rattle.std.proofs.Common.{◌∙◌, ap}
use Rattle.request_text.specs.PlainRequest.{paid_to}
use Rattle.fund_steps.specs.Listed.{burden_in, presets_in}
use Rattle.fund_steps.specs.Plan.{PlainPlan}
use Rattle.fund_plan.proofs.LoadLaws.{paid_is}
use Rattle.fund_plan.proofs.funding.PaymentMaker.alone.Goals as goal

pub paid-funded-requires-clause-paid : goal.paid-funded-requires-clause-paid
paid-funded-requires-clause-paid c =
    let p = c.self.inside.funds in
    paid_is p.request p.change (presets_in p) (burden_in p) c.load-load.result c.load-load.ensures.value ∙ ap (λ (q : PlainPlan). paid_to q.request.recipients) c.self.view_is
