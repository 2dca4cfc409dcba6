use Rattle.std.proofs.Common.{ap}
use Rattle.std.proofs.lemmas.Result.{err_from_is_err_and}
use Rattle.fund_files.specs.declared.chain.Chain.{Chain}
use Rattle.command_inputs.proofs.PlanLaws.{new_is, plan_stops_at}
use Rattle.command_inputs.proofs.funding.new_plan.Goals as goal

pub returns-clause-plan : goal.returns-clause-plan
returns-clause-plan c =
    let e = c.in_ok-plan.ensures in
    let x = c.in_ok-candidates.ensures in
    new_is c.args.held.now c.args.request.now _ _ _ c.in_ok-plan.plan (ap (λ (k : Chain). k.wallet.change) c.held.view_is) x.candidates x.bump e.plan e.stand e.partial

pub returns-in_err-plan-clause-stop : goal.returns-in_err-plan-clause-stop
returns-in_err-plan-clause-stop c =
    let p = err_from_is_err_and c.from_residual-in_err-plan.result c.from_residual-in_err-plan.ensures.1 in
    let x = c.in_ok-candidates.ensures in
    rw (p.1, p.2) (plan_stops_at c.args.held.now c.args.request.now _ _ _ c.in_err-plan.field-0.0 (ap (λ (k : Chain). k.wallet.change) c.held.view_is) x.candidates x.bump c.in_err-plan.ensures.fault)
