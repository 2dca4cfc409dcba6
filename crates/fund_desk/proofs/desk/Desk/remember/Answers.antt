use Rattle.std.proofs.Common.{◌∙◌, subst, sym}
use Rattle.desk_machine.specs.Commits.{IsCommit}
use Rattle.desk_machine.specs.Machine.{commit_step}
use Rattle.desk_machine.specs.Rules.{IsDesk}
use Rattle.desk_machine.specs.State.{PlainDesk}
use Rattle.fund_desk.specs.JobPayment.{IsPaymentOfJob}
use Rattle.fund_desk.proofs.CommitLaws.{commit_due, desk_due, due_done, given_desk, remembered}
use Rattle.fund_desk.proofs.JobLaws.{on_any_err}
use Rattle.fund_desk.proofs.StepLaws.{next_at, reply_at}
use Rattle.fund_desk.proofs.desk.Desk.remember.Goals as goal

pub invariant_of-self-2 : goal.invariant_of-self-2
invariant_of-self-2 c =
    let d : PlainDesk = record { held = c.self.inside.held; committed = c.self.inside.committed.items; jobs = c.self.inside.jobs.items } in
    let name = c.args.name.now in
    let g = c.args.given in
    let due = subst (λ (x : PlainDesk). IsPaymentOfJob x name g) (sym c.self.view_is) c.requires in
    let rules = subst IsDesk (sym (remembered d name g.payment _ _ c.in_ok-push.ensures.items c.close.ensures)) (desk_due d name g c.self.invariant.0 due) in
    (rules, c.self.invariant.1)

pub returns-clause-reply : goal.returns-clause-reply
returns-clause-reply c =
    let d : PlainDesk = record { held = c.self.inside.held; committed = c.self.inside.committed.items; jobs = c.self.inside.jobs.items } in
    let name = c.args.name.now in
    let g = c.args.given in
    let due = subst (λ (x : PlainDesk). IsPaymentOfJob x name g) (sym c.self.view_is) c.requires in
    reply_at c.args.self.now d (λ (x : PlainDesk). commit_step x name) _ c.self.view_is (due_done d name g due)

pub returns-clause-next : goal.returns-clause-next
returns-clause-next c =
    let d : PlainDesk = record { held = c.self.inside.held; committed = c.self.inside.committed.items; jobs = c.self.inside.jobs.items } in
    let name = c.args.name.now in
    let g = c.args.given in
    let due = subst (λ (x : PlainDesk). IsPaymentOfJob x name g) (sym c.self.view_is) c.requires in
    remembered d name g.payment _ _ c.in_ok-push.ensures.items c.close.ensures ∙ next_at c.args.self.now d (λ (x : PlainDesk). commit_step x name) _ c.self.view_is (due_done d name g due)

pub returns-clause-commits : goal.returns-clause-commits
returns-clause-commits c = λ txid psbt e.
    let d : PlainDesk = record { held = c.self.inside.held; committed = c.self.inside.committed.items; jobs = c.self.inside.jobs.items } in
    let name = c.args.name.now in
    let g = c.args.given in
    let due = subst (λ (x : PlainDesk). IsPaymentOfJob x name g) (sym c.self.view_is) c.requires in
    subst (λ (x : PlainDesk). IsCommit c.args.self.now name txid psbt x) (sym (remembered d name g.payment _ _ c.in_ok-push.ensures.items c.close.ensures))
    (subst (λ (x : PlainDesk). IsCommit x name txid psbt (given_desk d name g.payment)) c.self.view_is (commit_due d name g c.self.invariant.0 due txid psbt e))

pub returns-in_err-push-clause-takes : goal.returns-in_err-push-clause-takes
returns-in_err-push-clause-takes c = on_any_err c.from_residual.result _ (c.requires.job, c.requires.given.funded, c.requires.stands, c.requires.given.answers)
