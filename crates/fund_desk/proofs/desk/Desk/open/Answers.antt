use Rattle.std.specs.Prelude.{◌≡◌, List, false, length, nat_le}
use Rattle.std.proofs.Common.{ap, subst, sym, ◌∙◌}
use Rattle.desk_machine.specs.Machine.{open_step, plan_for}
use Rattle.desk_machine.specs.Replies.{plain_refusal}
use Rattle.desk_machine.specs.Rules.{IsDesk}
use Rattle.desk_machine.specs.State.{Job, Payment, PlainDesk, desk_of, has_job}
use Rattle.fund_desk.proofs.DeskLaws.{desk_open}
use Rattle.fund_desk.proofs.JobLaws.{on_any_err}
use Rattle.fund_desk.proofs.OpenLaws.{open_done, open_refused, plan_change, with_job}
use Rattle.fund_desk.proofs.StepLaws.{next_at, reply_at, takes_to_open}
use Rattle.fund_desk.proofs.desk.Desk.open.Goals as goal

pub returns-in-Err-clause-reply : goal.returns-in-Err-clause-reply
returns-in-Err-clause-reply c =
    let d : PlainDesk = record { held = c.self.inside.held; committed = c.self.inside.committed.items; jobs = c.self.inside.jobs.items } in
    let name = c.args.name.now in
    let request = c.args.request.now in
    let none : has_job d.jobs name ≡ false = ap (λ (js : List Job). has_job js name) (sym c.deref.ensures.value) ∙ sym c.has_job.ensures ∙ c.if-has_job.false in
    let few : nat_le 64 (length d.jobs) ≡ false = ap (λ (js : List Job). nat_le 64 (length js)) (sym c.deref-2.ensures.value) ∙ sym c.is_full.ensures ∙ c.if-is_full.false in
    let due = ap (λ (ps : List Payment). plan_for (desk_of d.held ps) request) (sym c.deref-3.ensures.value) ∙ (rw c.in-Err.is at c.in_ok-made.ensures.made) in
    reply_at c.args.self.now d (λ (x : PlainDesk). open_step x name request) _ c.self.view_is (open_refused d name request (plain_refusal c.in-Err.refusal) none few due)

pub returns-in-Err-clause-next : goal.returns-in-Err-clause-next
returns-in-Err-clause-next c =
    let d : PlainDesk = record { held = c.self.inside.held; committed = c.self.inside.committed.items; jobs = c.self.inside.jobs.items } in
    let name = c.args.name.now in
    let request = c.args.request.now in
    let none : has_job d.jobs name ≡ false = ap (λ (js : List Job). has_job js name) (sym c.deref.ensures.value) ∙ sym c.has_job.ensures ∙ c.if-has_job.false in
    let few : nat_le 64 (length d.jobs) ≡ false = ap (λ (js : List Job). nat_le 64 (length js)) (sym c.deref-2.ensures.value) ∙ sym c.is_full.ensures ∙ c.if-is_full.false in
    let due = ap (λ (ps : List Payment). plan_for (desk_of d.held ps) request) (sym c.deref-3.ensures.value) ∙ (rw c.in-Err.is at c.in_ok-made.ensures.made) in
    sym c.self.view_is ∙ next_at c.args.self.now d (λ (x : PlainDesk). open_step x name request) _ c.self.view_is (open_refused d name request (plain_refusal c.in-Err.refusal) none few due)

pub invariant_of-self-2 : goal.invariant_of-self-2
invariant_of-self-2 c =
    let d : PlainDesk = record { held = c.self.inside.held; committed = c.self.inside.committed.items; jobs = c.self.inside.jobs.items } in
    let name = c.args.name.now in
    let request = c.args.request.now in
    let p = c.in-Ok.made.plan.plan in
    let none : has_job d.jobs name ≡ false = ap (λ (js : List Job). has_job js name) (sym c.deref.ensures.value) ∙ sym c.has_job.ensures ∙ c.if-has_job.false in
    let few : nat_le 64 (length d.jobs) ≡ false = ap (λ (js : List Job). nat_le 64 (length js)) (sym c.deref-2.ensures.value) ∙ sym c.is_full.ensures ∙ c.if-is_full.false in
    let made = rw c.in-Ok.is at c.in_ok-made.ensures.made in
    let due = ap (λ (ps : List Payment). plan_for (desk_of d.held ps) request) (sym c.deref-3.ensures.value) ∙ made.due_is in
    let rules = subst IsDesk (sym (with_job d name p c.in_ok-job.job c.push.new.self.items c.in_ok-push.ensures.items c.in_ok-job.ensures)) (desk_open d name p c.self.invariant.0 none few (plan_change (desk_of d.held d.committed) request p due)) in
    (rules, c.self.invariant.1)

pub returns-clause-reply : goal.returns-clause-reply
returns-clause-reply c =
    let d : PlainDesk = record { held = c.self.inside.held; committed = c.self.inside.committed.items; jobs = c.self.inside.jobs.items } in
    let name = c.args.name.now in
    let request = c.args.request.now in
    let p = c.in-Ok.made.plan.plan in
    let none : has_job d.jobs name ≡ false = ap (λ (js : List Job). has_job js name) (sym c.deref.ensures.value) ∙ sym c.has_job.ensures ∙ c.if-has_job.false in
    let few : nat_le 64 (length d.jobs) ≡ false = ap (λ (js : List Job). nat_le 64 (length js)) (sym c.deref-2.ensures.value) ∙ sym c.is_full.ensures ∙ c.if-is_full.false in
    let made = rw c.in-Ok.is at c.in_ok-made.ensures.made in
    let due = ap (λ (ps : List Payment). plan_for (desk_of d.held ps) request) (sym c.deref-3.ensures.value) ∙ made.due_is in
    reply_at c.args.self.now d (λ (x : PlainDesk). open_step x name request) _ c.self.view_is (open_done d name request p none few due)

pub returns-clause-next : goal.returns-clause-next
returns-clause-next c =
    let d : PlainDesk = record { held = c.self.inside.held; committed = c.self.inside.committed.items; jobs = c.self.inside.jobs.items } in
    let name = c.args.name.now in
    let request = c.args.request.now in
    let p = c.in-Ok.made.plan.plan in
    let none : has_job d.jobs name ≡ false = ap (λ (js : List Job). has_job js name) (sym c.deref.ensures.value) ∙ sym c.has_job.ensures ∙ c.if-has_job.false in
    let few : nat_le 64 (length d.jobs) ≡ false = ap (λ (js : List Job). nat_le 64 (length js)) (sym c.deref-2.ensures.value) ∙ sym c.is_full.ensures ∙ c.if-is_full.false in
    let made = rw c.in-Ok.is at c.in_ok-made.ensures.made in
    let due = ap (λ (ps : List Payment). plan_for (desk_of d.held ps) request) (sym c.deref-3.ensures.value) ∙ made.due_is in
    with_job d name p c.in_ok-job.job c.push.new.self.items c.in_ok-push.ensures.items c.in_ok-job.ensures ∙ next_at c.args.self.now d (λ (x : PlainDesk). open_step x name request) _ c.self.view_is (open_done d name request p none few due)

pub returns-in_err-job-clause-takes : goal.returns-in_err-job-clause-takes
returns-in_err-job-clause-takes c =
    let d : PlainDesk = record { held = c.self.inside.held; committed = c.self.inside.committed.items; jobs = c.self.inside.jobs.items } in
    let name = c.args.name.now in
    let none : has_job d.jobs name ≡ false = ap (λ (js : List Job). has_job js name) (sym c.deref.ensures.value) ∙ sym c.has_job.ensures ∙ c.if-has_job.false in
    let few : nat_le 64 (length d.jobs) ≡ false = ap (λ (js : List Job). nat_le 64 (length js)) (sym c.deref-2.ensures.value) ∙ sym c.is_full.ensures ∙ c.if-is_full.false in
    on_any_err c.from_residual-in_err-job.result _ (takes_to_open c.args.self.now d name c.args.request.now c.self.view_is none few)

pub returns-in_err-push-clause-takes : goal.returns-in_err-push-clause-takes
returns-in_err-push-clause-takes c =
    let d : PlainDesk = record { held = c.self.inside.held; committed = c.self.inside.committed.items; jobs = c.self.inside.jobs.items } in
    let name = c.args.name.now in
    let none : has_job d.jobs name ≡ false = ap (λ (js : List Job). has_job js name) (sym c.deref.ensures.value) ∙ sym c.has_job.ensures ∙ c.if-has_job.false in
    let few : nat_le 64 (length d.jobs) ≡ false = ap (λ (js : List Job). nat_le 64 (length js)) (sym c.deref-2.ensures.value) ∙ sym c.is_full.ensures ∙ c.if-is_full.false in
    on_any_err c.from_residual-in_err-push.result _ (takes_to_open c.args.self.now d name c.args.request.now c.self.view_is none few)
