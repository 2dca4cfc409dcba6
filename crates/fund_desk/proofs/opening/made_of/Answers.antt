use Rattle.std.proofs.Common.{◌≡◌, ◌∙◌, None, Ok, ap, false, subst, sym}
use Rattle.std.specs.Prelude.{is_some}
use Rattle.desk_machine.specs.Machine.{plan_in}
use Rattle.desk_machine.specs.State.{desk_of}
use Rattle.fund_steps.specs.Faults.{fault_of}
use Rattle.fund_steps.specs.Plan.{PlainPlan}
use Rattle.request_text.specs.PlainRequest.{PlainRequest}
use Rattle.fund_desk.proofs.opening.made_of.Goals as goal

pub returns-in-Ok-clause-made : goal.returns-in-Ok-clause-made
returns-in-Ok-clause-made c =
    let none : is_some c.args.request.bump ≡ false = sym (ap (λ (q : PlainRequest). is_some q.bump) c.request.view_is) ∙ sym c.is_some.ensures ∙ c.if-is_some.false in
    let plan : c.in-Ok.plan.plan ≡ plan_in (desk_of c.args.held.now c.args.committed.now) c.args.request = c.in-Ok.ensures.plan in
    let fine : fault_of (plan_in (desk_of c.args.held.now c.args.committed.now) c.args.request) ≡ None = subst (λ (p : PlainPlan). fault_of p ≡ None) plan c.in-Ok.ensures.fine in
    record {
      due_is = rw (none, fine) (sym (ap (λ (p : PlainPlan). Ok p) plan));
      request = sym (ap (λ (p : PlainPlan). p.request) plan);
      stand = c.in-Ok.ensures.stand;
      partial = c.in-Ok.ensures.partial;
    }
