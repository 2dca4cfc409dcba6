use Rattle.std.proofs.Common.{◌∙◌, ap, arith, subst}
use Rattle.request_text.specs.PlainRequest.{paid_to}
use Rattle.fund_steps.specs.Amounts.{AreWithin}
use Rattle.fund_steps.specs.Listed.{burden_in, presets_in}
use Rattle.fund_steps.specs.Plan.{PlainPlan}
use Rattle.fund_plan.proofs.LoadLaws.{few_coins, paid_is}
use Rattle.fund_plan.proofs.funding.PaymentMaker.load.Goals as goal

pub overflow_add-result : goal.overflow_add-result
overflow_add-result c =
    let p = c.self.inside.funds in
    let few = few_coins p.request p.change (presets_in p) (burden_in p) c.load-load.result c.load-load.ensures.value (subst AreWithin c.presets.ensures.value c.presets.ensures.fit) in
    omega (arith, few, c.at_hand.ensures.most)

pub returns-clause-paid : goal.returns-clause-paid
returns-clause-paid c =
    let p = c.self.inside.funds in
    paid_is p.request p.change (presets_in p) (burden_in p) c.load-load.result c.load-load.ensures.value ∙ ap (λ (q : PlainPlan). paid_to q.request.recipients) c.self.view_is
