use Rattle.std.specs.Prelude.{None}
use Rattle.fund_steps.specs.Plan.{PlainPlan}
use Rattle.fund_gap.proofs.GapLaws.{gap_made, refused_is}
use Rattle.fund_gap.proofs.gap.fund_gap.Goals as goal

pub returns-in-Ok : goal.returns-in-Ok
returns-in-Ok c =
    let p : PlainPlan = record { request = c.args.request.now; change = c.args.change.now; candidates = c.args.candidates.items; bump = None } in
    gap_made p c.in-Ok.field-0.funds c.gap_of.result c.some_gap.result c.in-Ok.ensures.made c.gap_of.ensures.plan c.gap_of.ensures.gap c.gap_of.ensures.fault c.some_gap.ensures.some c.some_gap.ensures.many c.some_gap.ensures.short

pub returns : goal.returns
returns c =
    let p : PlainPlan = record { request = c.args.request.now; change = c.args.change.now; candidates = c.args.candidates.items; bump = None } in
    refused_is p c.in-Err.fault c.refused.result c.in-Err.ensures.fault c.refused.ensures
