use Rattle.std.proofs.Common.{◌∙◌, ap, refl}
use Rattle.request_text.specs.PlainRequest.{PlainRequest}
use Rattle.wide_plan.proofs.PlanLaws.{can_come, kinds, rows_are_of, run_made, steps_are}
use Rattle.wide_plan.specs.Run.{plan_from}
use Rattle.wide_plan.proofs.plan.search_wide.Goals as goal

pub search_rows-requires : goal.search_rows-requires
search_rows-requires c =
    let p = plan_from c.args.request.now c.args.change.now c.args.candidates.items in
    let steps = steps_are p c.in_ok-funds.field-0.funds c.in_ok-funds.field-0.steps.items c.deref.result.now c.in_ok-funds.ensures.made c.deref.ensures.value c.in_ok-funds.ensures.steps in
    kinds p c.deref.result.now c.requires.asked steps

pub come_to-requires-clause-can : goal.come_to-requires-clause-can
come_to-requires-clause-can c =
    let p = plan_from c.args.request.now c.args.change.now c.args.candidates.items in
    let steps = steps_are p c.in_ok-funds.field-0.funds c.in_ok-funds.field-0.steps.items c.deref.result.now c.in_ok-funds.ensures.made c.deref.ensures.value c.in_ok-funds.ensures.steps in
    let from = steps_are p c.in_ok-funds.field-0.funds c.in_ok-funds.field-0.steps.items c.in_ok-funds.field-0.steps.items c.in_ok-funds.ensures.made refl c.in_ok-funds.ensures.steps in
    let rows = rows_are_of p c.deref.result.now c.request.inside.tries _ steps (ap (λ (q : PlainRequest). q.tries) c.request.view_is) (c.rows.view_is ∙ c.in_ok-rows.ensures) in
    can_come p c.new-maker.result c.in_ok-funds.field-0.steps.items _ (c.new-maker.ensures ∙ c.in_ok-funds.ensures.made) from c.in_ok-funds.ensures.fine c.requires.asked refl rows

pub returns-clause-run : goal.returns-clause-run
returns-clause-run c =
    let p = plan_from c.args.request.now c.args.change.now c.args.candidates.items in
    let steps = steps_are p c.in_ok-funds.field-0.funds c.in_ok-funds.field-0.steps.items c.deref.result.now c.in_ok-funds.ensures.made c.deref.ensures.value c.in_ok-funds.ensures.steps in
    let rows = rows_are_of p c.deref.result.now c.request.inside.tries _ steps (ap (λ (q : PlainRequest). q.tries) c.request.view_is) (c.rows.view_is ∙ c.in_ok-rows.ensures) in
    run_made p c.new-maker.result _ c.in_ok-outcome.outcome (c.new-maker.ensures ∙ c.in_ok-funds.ensures.made) rows c.in_ok-outcome.ensures.value
