use Rattle.command_end.specs.declared.status.Status.TheVariants as statuses
use Rattle.command_work.proofs.RunLaws.{if_run, run_none, run_open, run_paid}
use Rattle.command_work.proofs.running.summed.Goals as goal

pub returns-in-Unfinished : goal.returns-in-Unfinished
returns-in-Unfinished c =
    let ends = rw c.in-Unfinished.is at c.requires.ends in
    let w = rw c.deref.ensures.value at c.with_status.ensures in
    let l = c.in-Unfinished.left in
    if_run c.args.number c.args.count l.report.items statuses.Unfinished c.with_status.result (λ summary is. run_open c.args.number c.args.count l.report.items summary c.requires.distinct (ends.0, ends.1) is) w.summary w.status

pub returns-in-NoSelection : goal.returns-in-NoSelection
returns-in-NoSelection c =
    let ends = rw c.in-NoSelection.is at c.requires.ends in
    let w = rw c.deref-in-NoSelection.ensures.value at c.with_status-in-NoSelection.ensures in
    let t = c.in-NoSelection.texts in
    if_run c.args.number c.args.count t.report.items statuses.NoSelection c.with_status-in-NoSelection.result (λ summary is. run_none c.args.number c.args.count t.report.items t.log.items summary c.requires.distinct ends is) w.summary w.status

pub returns-in-Funded : goal.returns-in-Funded
returns-in-Funded c =
    let ends = rw c.in-Funded.is at c.requires.ends in
    let w = rw c.deref-in-Funded.ensures.value at c.with_status-in-Funded.ensures in
    let t = c.in-Funded.texts in
    if_run c.args.number c.args.count t.report.items statuses.Done c.with_status-in-Funded.result (λ summary is. run_paid c.args.number c.args.count t.report.items t.log.items summary c.requires.distinct ends is) w.summary w.status
