use Rattle.std.specs.Prelude.{Some, string_bytes}
use Rattle.std.proofs.Common.{ap, refl, sym, ◌∙◌}
use Rattle.fund_plan.specs.State.{PlanState}
use Rattle.fund_steps.specs.Plan.{PlainPlan}
use Rattle.desk_machine.proofs.RunLaws.{moved_plan}
use Rattle.desk_machine.specs.State.{Job}
use Rattle.fund_desk.proofs.JobLaws.{answered_now}
use Rattle.fund_desk.proofs.job.OpenJob.turn.Goals as goal

pub invariant_of-self-2 : goal.invariant_of-self-2
invariant_of-self-2 c =
    let e = c.in_ok-outcome.ensures in
    let same = ap (λ (s : PlanState). s.plan) e.moved ∙ moved_plan c.self.inside.plan c.args.tries in
    let j : Job = record { name = string_bytes c.self.inside.name; state = c.go.new.self; answer = Some c.in_ok-outcome.outcome } in
    (c.self.invariant.0 ∙ ap (λ (p : PlainPlan). p.request) (sym same), answered_now j c.self.inside.plan.plan c.in_ok-outcome.outcome same refl e.pays e.fits)
