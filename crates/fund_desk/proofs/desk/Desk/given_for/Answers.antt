use Rattle.std.specs.Prelude.{IfOk, MatchResult, OnErr, List}
use Rattle.std.proofs.Common.{ap, subst, sym, ◌∙◌}
use Rattle.std.proofs.lemmas.List.Elements.{All-contains}
use Rattle.desk_machine.specs.Commands.{Commit}
use Rattle.desk_machine.specs.Does.{TakesMemory}
use Rattle.desk_machine.specs.Replies.{plain_reply}
use Rattle.desk_machine.specs.Rules.{IsJob}
use Rattle.desk_machine.specs.State.{Job, Payment, PlainDesk, job_at}
use Rattle.fund_desk.specs.JobPayment.{IsPaymentOfJob, HasNoPayment}
use Rattle.fund_desk.specs.Given.{IsGiven, IsNotGiven}
use Rattle.fund_desk.proofs.CommitLaws.{due_or_not, job_stands, none_due}
use Rattle.fund_desk.proofs.JobLaws.{on_err}
use Rattle.fund_desk.proofs.desk.Desk.given_for.Goals as goal

pub give_out-requires-clause-job : goal.give_out-requires-clause-job
give_out-requires-clause-job c =
    let jobs = c.self.inside.jobs.items in
    let name = c.args.name.now in
    let at = sym (c.in-Some.ensures ∙ ap (λ (js : List Job). job_at js name) c.deref.ensures.value) in
    All-contains (IsJob c.self.inside.held.wallet.change) jobs c.in-Some.job.now c.self.invariant.0.each (job_stands jobs name c.in-Some.job.now at).0

pub returns-in-Some-clause-given : goal.returns-in-Some-clause-given
returns-in-Some-clause-given c =
    let d : PlainDesk = record { held = c.self.inside.held; committed = c.self.inside.committed.items; jobs = c.self.inside.jobs.items } in
    let name = c.args.name.now in
    let j = c.in-Some.job.now in
    let at = sym (c.in-Some.ensures ∙ ap (λ (js : List Job). job_at js name) c.deref.ensures.value) in
    subst (λ (x : PlainDesk). IfOk c.give_out.result (λ r. MatchResult r (IsPaymentOfJob x name) (λ reply. HasNoPayment x name (plain_reply reply)))) c.self.view_is
    (due_or_not d name j c.give_out.result at
    (subst (λ (ps : List Payment). IfOk c.give_out.result (λ r. MatchResult r (IsGiven d.held ps j) (λ reply. IsNotGiven d.held ps j (plain_reply reply)))) c.deref-in-Some.ensures.value c.give_out.ensures.given))

pub returns-in-Some-clause-takes : goal.returns-in-Some-clause-takes
returns-in-Some-clause-takes c =
    let jobs = c.self.inside.jobs.items in
    let name = c.args.name.now in
    let at = sym (c.in-Some.ensures ∙ ap (λ (js : List Job). job_at js name) c.deref.ensures.value) in
    subst (λ (x : PlainDesk). OnErr c.give_out.result (TakesMemory x (Commit name))) c.self.view_is (on_err c.give_out.result _ _ (λ h. (c.in-Some.job.now, h.0, at, h.1)) c.give_out.ensures.funded)

pub returns-in-None-clause-given : goal.returns-in-None-clause-given
returns-in-None-clause-given c =
    let d : PlainDesk = record { held = c.self.inside.held; committed = c.self.inside.committed.items; jobs = c.self.inside.jobs.items } in
    let name = c.args.name.now in
    let at = sym (c.in-None.ensures ∙ ap (λ (js : List Job). job_at js name) c.deref.ensures.value) in
    subst (λ (x : PlainDesk). HasNoPayment x name _) c.self.view_is (none_due d name at)
