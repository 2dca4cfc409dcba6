use Rattle.std.specs.Prelude.{◌≡◌, List, All, IfOk, Option, Some, None, position}
use Rattle.std.proofs.Common.{ap, set, subst, sym, ◌∙◌}
use Rattle.std.proofs.lemmas.List.Elements.{All-contains}
use Rattle.desk_machine.proofs.JobLists.{at_place, no_place, put_place}
use Rattle.desk_machine.specs.Does.{LeavesJobs}
use Rattle.desk_machine.specs.Machine.{jobs_in, reply_in}
use Rattle.desk_machine.specs.Replies.{plain_reply}
use Rattle.desk_machine.specs.Rules.{IsJob}
use Rattle.desk_machine.specs.State.{Job, is_named, put_job}
use Rattle.fund_desk.proofs.CommitLaws.{job_stands}
use Rattle.fund_desk.proofs.DeskLaws.{put_each}
use Rattle.fund_desk.proofs.JobLaws.{job_still, on_any_err, on_err, on_ok}
use Rattle.fund_desk.proofs.job.turn.Goals as goal

pub returns-in-Some-clause-reply : goal.returns-in-Some-clause-reply
returns-in-Some-clause-reply c =
    let jobs = c.args.jobs.now.items in
    let name = c.args.name.now in
    let e : position (is_named name) jobs ≡ Some c.in-Some.place = sym (c.in-Some.ensures ∙ ap (λ (js : List Job). position (is_named name) js) c.deref.ensures.value) in
    let at = at_place name jobs c.in-Some.place c.index_mut-job.result.now e c.index_mut-job.ensures.value in
    subst (λ (o : Option Job). IfOk c.turn.result (λ r. plain_reply r ≡ reply_in c.args.tries o)) (sym at) c.turn.ensures.reply

pub returns-in-Some-clause-next : goal.returns-in-Some-clause-next
returns-in-Some-clause-next c =
    let jobs = c.args.jobs.now.items in
    let name = c.args.name.now in
    let e : position (is_named name) jobs ≡ Some c.in-Some.place = sym (c.in-Some.ensures ∙ ap (λ (js : List Job). position (is_named name) js) c.deref.ensures.value) in
    let at = at_place name jobs c.in-Some.place c.index_mut-job.result.now e c.index_mut-job.ensures.value in
    on_ok c.turn.result _ _
    (λ is. sym (put_place name c.turn.new.self jobs c.in-Some.place e) ∙ ap (λ (y : Job). put_job name y jobs) is ∙ ap (jobs_in jobs name c.args.tries) (sym at)) c.turn.ensures.next

pub returns-in-Some-clause-memory : goal.returns-in-Some-clause-memory
returns-in-Some-clause-memory c =
    let jobs = c.args.jobs.now.items in
    let name = c.args.name.now in
    let e : position (is_named name) jobs ≡ Some c.in-Some.place = sym (c.in-Some.ensures ∙ ap (λ (js : List Job). position (is_named name) js) c.deref.ensures.value) in
    let at = at_place name jobs c.in-Some.place c.index_mut-job.result.now e c.index_mut-job.ensures.value in
    on_err c.turn.result _ _
    (λ lag. subst (λ (o : Option Job). LeavesJobs jobs name c.args.tries o (set jobs c.in-Some.place c.turn.new.self)) (sym at) (c.turn.new.self, lag, sym (put_place name c.turn.new.self jobs c.in-Some.place e))) c.turn.ensures.memory

pub returns-in-Some-clause-open : goal.returns-in-Some-clause-open
returns-in-Some-clause-open c =
    let jobs = c.args.jobs.now.items in
    let name = c.args.name.now in
    let e : position (is_named name) jobs ≡ Some c.in-Some.place = sym (c.in-Some.ensures ∙ ap (λ (js : List Job). position (is_named name) js) c.deref.ensures.value) in
    on_any_err c.turn.result _ (c.index_mut-job.result.now, at_place name jobs c.in-Some.place c.index_mut-job.result.now e c.index_mut-job.ensures.value)

pub returns-in-Some-clause-each : goal.returns-in-Some-clause-each
returns-in-Some-clause-each c = λ change each.
    let jobs = c.args.jobs.now.items in
    let name = c.args.name.now in
    let j = c.index_mut-job.result.now in
    let e : position (is_named name) jobs ≡ Some c.in-Some.place = sym (c.in-Some.ensures ∙ ap (λ (js : List Job). position (is_named name) js) c.deref.ensures.value) in
    let at = at_place name jobs c.in-Some.place j e c.index_mut-job.ensures.value in
    subst (λ (js : List Job). All (IsJob change) js) (put_place name c.turn.new.self jobs c.in-Some.place e)
    (put_each (IsJob change) name c.turn.new.self jobs (job_still change j c.turn.new.self c.turn.ensures.plan c.turn.ensures.answered (All-contains (IsJob change) jobs j each (job_stands jobs name j at).0)) each)

pub returns-in-None-clause-reply : goal.returns-in-None-clause-reply
returns-in-None-clause-reply c =
    let jobs = c.args.jobs.now.items in
    let name = c.args.name.now in
    let e : position (is_named name) jobs ≡ None = sym (c.in-None.ensures ∙ ap (λ (js : List Job). position (is_named name) js) c.deref.ensures.value) in
    ap (reply_in c.args.tries) (sym (no_place name jobs e))

pub returns-in-None-clause-next : goal.returns-in-None-clause-next
returns-in-None-clause-next c =
    let jobs = c.args.jobs.now.items in
    let name = c.args.name.now in
    let e : position (is_named name) jobs ≡ None = sym (c.in-None.ensures ∙ ap (λ (js : List Job). position (is_named name) js) c.deref.ensures.value) in
    ap (jobs_in jobs name c.args.tries) (sym (no_place name jobs e))
