use Rattle.std.proofs.Common.{◌≡◌, ◌∙◌, Result, Err, inl, inr, refl}
use Rattle.command_end.proofs.WholeLaws.{put_whole}
use Rattle.command_end.specs.Names.{plain_sources}
use Rattle.command_end.specs.declared.status.Status.TheVariants as statuses
use Rattle.command_inputs.specs.Names.{plain_payment}
use Rattle.command_inputs.proofs.InputLaws.{inputs_behind}
use Rattle.command_inputs.proofs.AskingLaws.{asked_on}
use Rattle.command_inputs.proofs.JobLaws.{same_jobs}
use Rattle.command_resume.proofs.Finished.{finish_ends, jobs_on, leave_ends}
use Rattle.command_resume.proofs.StopLaws.{stop_ends, stop_untold}
use Rattle.command_inputs.specs.declared.funding.Ending.{Ending}
use Rattle.command_resume.specs.declared.resuming.LoadedJob.{LoadedJob}
use Rattle.command_resume.specs.declared.stop.Stop.{Stop}
use Rattle.command_resume.proofs.command.resume.Goals as goal

same_stop : (a b : Stop) → ◌≡◌ {A = Result (Ending LoadedJob) Stop} (Err a) (Err b) → a ≡ b
same_stop a b e = cc

pub returns-in-Ok-Unfinished-clause-ends : goal.returns-in-Ok-Unfinished-clause-ends
returns-in-Ok-Unfinished-clause-ends g c =
    let ended = rw c.in-Ok-Unfinished.field-0-is at c.in-Ok-Unfinished.ensures.ends in
    leave_ends _ _ _ (plain_sources c.args.sources.now) (plain_payment c.args.payment.now) c.args.job.now c.in-Ok-Unfinished.left (g.H.Shelf.view c.args.shelf.now) (g.H.Shelf.view c.go_on.new.shelf) (g.O.Sink.view c.args.out.now) (g.O.Sink.view c.leave.new.out)
    (g.K.Keeper.view c.args.keeper.now) (g.K.Keeper.view c.go_on.new.keeper) (g.K.Keeper.view c.leave.new.keeper) c.leave.result c.go_on.ensures.frame.same c.go_on.ensures.jobs c.go_on.ensures.faults ended c.leave.ensures.left

pub returns-in-Ok-NoSelection-clause-ends : goal.returns-in-Ok-NoSelection-clause-ends
returns-in-Ok-NoSelection-clause-ends g c =
    let ends = rw c.in-Ok-NoSelection.field-0-is at c.in-Ok-NoSelection.ensures.ends in
    let f = rw (c.deref.ensures.value, c.deref-in-Ok-NoSelection.ensures.value) at c.finish.ensures in
    let t = c.in-Ok-NoSelection.texts in
    finish_ends _ _ _ (plain_sources c.args.sources.now) (plain_payment c.args.payment.now) c.args.job.now t.report.items t.log.items (g.H.Shelf.view c.args.shelf.now) (g.H.Shelf.view c.go_on.new.shelf) (g.H.Shelf.view c.finish.new.shelf) (g.O.Sink.view c.args.out.now)
    (g.O.Sink.view c.finish.new.out) (g.K.Keeper.view c.args.keeper.now) (g.K.Keeper.view c.go_on.new.keeper) c.go_on.ensures.frame.writes c.go_on.ensures.frame.same c.go_on.ensures.jobs (inr ends) statuses.NoSelection c.finish.result (inr refl) (λ log put. (t.report.items, t.log.items, ends, log, put)) f.kinds f.log f.report f.write_fault f.memory

pub returns-in-Ok-Funded-clause-ends : goal.returns-in-Ok-Funded-clause-ends
returns-in-Ok-Funded-clause-ends g c =
    let ends = rw c.in-Ok-Funded.field-0-is at c.in-Ok-Funded.ensures.ends in
    let f = rw (c.deref-in-Ok-Funded.ensures.value, c.deref-in-Ok-Funded-2.ensures.value) at c.finish-in-Ok-Funded.ensures in
    let t = c.in-Ok-Funded.texts in
    finish_ends _ _ _ (plain_sources c.args.sources.now) (plain_payment c.args.payment.now) c.args.job.now t.report.items t.log.items (g.H.Shelf.view c.args.shelf.now) (g.H.Shelf.view c.go_on.new.shelf) (g.H.Shelf.view c.finish-in-Ok-Funded.new.shelf) (g.O.Sink.view c.args.out.now)
    (g.O.Sink.view c.finish-in-Ok-Funded.new.out) (g.K.Keeper.view c.args.keeper.now) (g.K.Keeper.view c.go_on.new.keeper) c.go_on.ensures.frame.writes c.go_on.ensures.frame.same c.go_on.ensures.jobs (inl ends) statuses.Done c.finish-in-Ok-Funded.result (inl refl) (λ log put. (t.report.items, t.log.items, ends, log, put)) f.kinds f.log f.report f.write_fault f.memory

pub returns-in-Err-clause-ends : goal.returns-in-Err-clause-ends
returns-in-Err-clause-ends g c =
    stop_ends _ _ _ (plain_sources c.args.sources.now) (plain_payment c.args.payment.now) c.args.job.now c.in-Err.stop (g.H.Shelf.view c.args.shelf.now) (g.H.Shelf.view c.go_on.new.shelf) (g.O.Sink.view c.args.out.now) (g.O.Sink.view c.answer.new.out)
    (g.K.Keeper.view c.args.keeper.now) (g.K.Keeper.view c.go_on.new.keeper) c.answer.result c.in-Err.ensures.stop c.go_on.ensures.frame.same c.go_on.ensures.jobs c.answer.ensures.answered

pub leave-requires : goal.leave-requires
leave-requires g c =
    let ended = rw c.in-Ok-Unfinished.field-0-is at c.in-Ok-Unfinished.ensures.ends in
    ended.can

-- ---- what is asked for

pub returns-in-Ok-Unfinished-clause-asks : goal.returns-in-Ok-Unfinished-clause-asks
returns-in-Ok-Unfinished-clause-asks g c = record { asked = c.go_on.ensures.asked; none_behind = c.go_on.ensures.none_behind }

pub returns-in-Ok-NoSelection-clause-asks : goal.returns-in-Ok-NoSelection-clause-asks
returns-in-Ok-NoSelection-clause-asks g c =
    let ends = rw c.in-Ok-NoSelection.field-0-is at c.in-Ok-NoSelection.ensures.ends in
    record {
      asked = λ t. asked_on (plain_sources c.args.sources.now) (plain_payment c.args.payment.now) (g.H.Shelf.view c.args.shelf.now) (g.H.Shelf.view c.go_on.new.shelf) (g.H.Shelf.view c.finish.new.shelf) c.finish.ensures.asked (c.go_on.ensures.asked t);
      none_behind = inputs_behind _ (plain_sources c.args.sources.now) (plain_payment c.args.payment.now) ends.wallet ends.blocks ends.asked (g.H.Shelf.view c.args.shelf.now) (g.H.Shelf.view c.finish.new.shelf) ends.inputs;
    }

pub returns-in-Ok-Funded-clause-asks : goal.returns-in-Ok-Funded-clause-asks
returns-in-Ok-Funded-clause-asks g c =
    let ends = rw c.in-Ok-Funded.field-0-is at c.in-Ok-Funded.ensures.ends in
    record {
      asked = λ t. asked_on (plain_sources c.args.sources.now) (plain_payment c.args.payment.now) (g.H.Shelf.view c.args.shelf.now) (g.H.Shelf.view c.go_on.new.shelf) (g.H.Shelf.view c.finish-in-Ok-Funded.new.shelf) c.finish-in-Ok-Funded.ensures.asked (c.go_on.ensures.asked t);
      none_behind = inputs_behind _ (plain_sources c.args.sources.now) (plain_payment c.args.payment.now) ends.wallet ends.blocks ends.asked (g.H.Shelf.view c.args.shelf.now) (g.H.Shelf.view c.finish-in-Ok-Funded.new.shelf) ends.inputs;
    }

pub returns-in-Err-clause-asks : goal.returns-in-Err-clause-asks
returns-in-Err-clause-asks g c = record { asked = c.go_on.ensures.asked; none_behind = c.go_on.ensures.none_behind }

-- ---- what is kept

pub returns-in-Ok-Unfinished-clause-jobs : goal.returns-in-Ok-Unfinished-clause-jobs
returns-in-Ok-Unfinished-clause-jobs g c = λ t. jobs_on _ _ (g.K.Keeper.view c.args.keeper.now) (g.K.Keeper.view c.go_on.new.keeper) (g.K.Keeper.view c.leave.new.keeper) (c.go_on.ensures.jobs t) (c.leave.ensures.jobs t)

pub returns-in-Ok-NoSelection-clause-jobs : goal.returns-in-Ok-NoSelection-clause-jobs
returns-in-Ok-NoSelection-clause-jobs g c = λ t. same_jobs _ _ (g.K.Keeper.view c.args.keeper.now) (g.K.Keeper.view c.go_on.new.keeper) (c.go_on.ensures.jobs t)

pub returns-in-Ok-Funded-clause-jobs : goal.returns-in-Ok-Funded-clause-jobs
returns-in-Ok-Funded-clause-jobs g c = λ t. same_jobs _ _ (g.K.Keeper.view c.args.keeper.now) (g.K.Keeper.view c.go_on.new.keeper) (c.go_on.ensures.jobs t)

pub returns-in-Err-clause-jobs : goal.returns-in-Err-clause-jobs
returns-in-Err-clause-jobs g c = λ t. same_jobs _ _ (g.K.Keeper.view c.args.keeper.now) (g.K.Keeper.view c.go_on.new.keeper) (c.go_on.ensures.jobs t)

-- ---- failures

pub returns-in-Ok-Unfinished-clause-honest : goal.returns-in-Ok-Unfinished-clause-honest
returns-in-Ok-Unfinished-clause-honest g c = record {
  all_read = λ other. c.in-Ok-Unfinished.ensures.all_read (λ file e. cc);
  all_written = λ other. c.go_on.ensures.frame.writes;
  all_put = c.leave.ensures.all_put;
  unfailed = λ other. c.leave.ensures.unfailed other ∙ c.in-Ok-Unfinished.ensures.unfailed (λ e. cc);
}

pub returns-in-Ok-NoSelection-clause-honest : goal.returns-in-Ok-NoSelection-clause-honest
returns-in-Ok-NoSelection-clause-honest g c = record {
  all_read = λ other. c.finish.ensures.reads ∙ c.in-Ok-NoSelection.ensures.all_read (λ file e. cc);
  all_written = λ other. c.finish.ensures.all_written other ∙ c.go_on.ensures.frame.writes;
  all_put = put_whole (g.O.Sink.view c.args.out.now) (g.O.Sink.view c.finish.new.out) c.finish.result c.finish.ensures.all_put;
  unfailed = λ other. c.in-Ok-NoSelection.ensures.unfailed (λ e. cc);
}

pub returns-in-Ok-Funded-clause-honest : goal.returns-in-Ok-Funded-clause-honest
returns-in-Ok-Funded-clause-honest g c = record {
  all_read = λ other. c.finish-in-Ok-Funded.ensures.reads ∙ c.in-Ok-Funded.ensures.all_read (λ file e. cc);
  all_written = λ other. c.finish-in-Ok-Funded.ensures.all_written other ∙ c.go_on.ensures.frame.writes;
  all_put = put_whole (g.O.Sink.view c.args.out.now) (g.O.Sink.view c.finish-in-Ok-Funded.new.out) c.finish-in-Ok-Funded.result c.finish-in-Ok-Funded.ensures.all_put;
  unfailed = λ other. c.in-Ok-Funded.ensures.unfailed (λ e. cc);
}

pub returns-in-Err-clause-honest : goal.returns-in-Err-clause-honest
returns-in-Err-clause-honest g c = record {
  all_read = λ other. c.in-Err.ensures.all_read (λ file e. other (c.answer.ensures.read file (same_stop _ _ e)));
  all_written = λ other. c.go_on.ensures.frame.writes;
  all_put = λ whole. absurd (stop_untold _ (plain_sources c.args.sources.now) (plain_payment c.args.payment.now) c.in-Err.stop (g.O.Sink.view c.args.out.now) (g.O.Sink.view c.answer.new.out) c.answer.result c.answer.ensures.answered whole);
  unfailed = λ other. c.in-Err.ensures.unfailed (λ e. other (c.answer.ensures.keep (same_stop _ _ e)));
}
