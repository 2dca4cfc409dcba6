use Rattle.std.proofs.Common.{ap}
use Rattle.request_text.specs.PlainRequest.{PlainRequest}
use Rattle.command_inputs.proofs.PlanLaws.{after}
use Rattle.command_inputs.proofs.funding.run_plan.Goals as goal

pub returns-clause-run : goal.returns-clause-run
returns-clause-run c =
    let e = c.in_ok-outcome.ensures in
    after c.args.held.now c.args.request.now c.in_ok-plan.plan c.go.new.self c.request.inside.tries c.in_ok-outcome.outcome c.in_ok-plan.ensures.plan (ap (λ (q : PlainRequest). q.tries) c.request.view_is) c.keeps_rules.ensures c.keeps_steps.ensures e.moved e.told e.pays e.fits
