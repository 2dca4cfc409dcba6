use Rattle.std.proofs.Common.{◌∙◌, inl, inr, refl}
use Rattle.command_end.proofs.WholeLaws.{put_whole}
use Rattle.command_end.specs.Names.{plain_sources}
use Rattle.command_end.specs.declared.status.Status.TheVariants as statuses
use Rattle.command_inputs.specs.Names.{plain_job, plain_payment}
use Rattle.command_fund.proofs.Finished.{finish_ends, leave_ends, stop_ends}
use Rattle.command_inputs.proofs.StopLaws.{stop_untold}
use Rattle.command_inputs.proofs.InputLaws.{inputs_behind}
use Rattle.command_inputs.proofs.AskingLaws.{asked_on}
use Rattle.command_inputs.proofs.JobLaws.{same_jobs}
use Rattle.command_fund.proofs.command.fund.Goals as goal

pub returns-in-Unfinished-clause-ends : goal.returns-in-Unfinished-clause-ends
returns-in-Unfinished-clause-ends g c =
    let ended = rw c.in-Unfinished.is at c.in-Ok.ensures.ends in
    leave_ends _ _ _ (plain_sources c.args.sources.now) (plain_payment c.args.payment.now) (plain_job c.args.job) c.in-Ok.read.1 c.in-Unfinished.left (g.H.Shelf.view c.args.shelf.now) (g.H.Shelf.view c.outcome.new.shelf) (g.O.Sink.view c.args.out.now) (g.O.Sink.view c.leave.new.out)
    (g.K.Keeper.view c.args.keeper.now) (g.K.Keeper.view c.leave.new.keeper) c.leave.result c.outcome.ensures.frame ended.0 ended.1.steps ended.1 c.in-Ok.ensures.digest c.leave.ensures.left

pub returns-in-NoSelection-clause-ends : goal.returns-in-NoSelection-clause-ends
returns-in-NoSelection-clause-ends g c =
    let ends = rw c.in-NoSelection.is at c.in-Ok.ensures.ends in
    let f = rw (c.deref.ensures.value, c.deref-in-NoSelection.ensures.value) at c.finish.ensures in
    let t = c.in-NoSelection.texts in
    finish_ends _ _ _ (plain_sources c.args.sources.now) (plain_payment c.args.payment.now) (plain_job c.args.job) (g.K.Keeper.view c.args.keeper.now) t.report.items t.log.items statuses.NoSelection (g.H.Shelf.view c.args.shelf.now) (g.H.Shelf.view c.outcome.new.shelf) (g.H.Shelf.view c.finish.new.shelf) (g.O.Sink.view c.args.out.now)
    (g.O.Sink.view c.finish.new.out) c.finish.result (inr refl) c.outcome.ensures.frame.writes c.outcome.ensures.frame.same (inr ends) (λ log put. (t.report.items, t.log.items, ends, log, put)) f.kinds f.log f.report f.write_fault f.memory

pub returns-in-Funded-clause-ends : goal.returns-in-Funded-clause-ends
returns-in-Funded-clause-ends g c =
    let ends = rw c.in-Funded.is at c.in-Ok.ensures.ends in
    let f = rw (c.deref-in-Funded.ensures.value, c.deref-in-Funded-2.ensures.value) at c.finish-in-Funded.ensures in
    let t = c.in-Funded.texts in
    finish_ends _ _ _ (plain_sources c.args.sources.now) (plain_payment c.args.payment.now) (plain_job c.args.job) (g.K.Keeper.view c.args.keeper.now) t.report.items t.log.items statuses.Done (g.H.Shelf.view c.args.shelf.now) (g.H.Shelf.view c.outcome.new.shelf) (g.H.Shelf.view c.finish-in-Funded.new.shelf) (g.O.Sink.view c.args.out.now)
    (g.O.Sink.view c.finish-in-Funded.new.out) c.finish-in-Funded.result (inl refl) c.outcome.ensures.frame.writes c.outcome.ensures.frame.same (inl ends) (λ log put. (t.report.items, t.log.items, ends, log, put)) f.kinds f.log f.report f.write_fault f.memory

pub returns-in-Err-clause-ends : goal.returns-in-Err-clause-ends
returns-in-Err-clause-ends g c =
    stop_ends _ _ _ (plain_sources c.args.sources.now) (plain_payment c.args.payment.now) (plain_job c.args.job) (g.K.Keeper.view c.args.keeper.now) c.in-Err.stop (g.H.Shelf.view c.args.shelf.now) (g.H.Shelf.view c.outcome.new.shelf) (g.O.Sink.view c.args.out.now) (g.O.Sink.view c.answer.new.out) c.answer.result
    c.in-Err.ensures.stop c.outcome.ensures.frame.same c.answer.ensures.answered

-- ---- what is asked for

pub returns-in-Unfinished-clause-asks : goal.returns-in-Unfinished-clause-asks
returns-in-Unfinished-clause-asks g c =
    let ended = rw c.in-Unfinished.is at c.in-Ok.ensures.ends in
    record {
      asked = c.outcome.ensures.asked;
      none_behind = inputs_behind _ (plain_sources c.args.sources.now) (plain_payment c.args.payment.now) ended.0.wallet ended.0.blocks ended.0.asked (g.H.Shelf.view c.args.shelf.now) (g.H.Shelf.view c.outcome.new.shelf) ended.0.inputs;
    }

pub returns-in-NoSelection-clause-asks : goal.returns-in-NoSelection-clause-asks
returns-in-NoSelection-clause-asks g c =
    let ends = rw c.in-NoSelection.is at c.in-Ok.ensures.ends in
    record {
      asked = λ t. asked_on (plain_sources c.args.sources.now) (plain_payment c.args.payment.now) (g.H.Shelf.view c.args.shelf.now) (g.H.Shelf.view c.outcome.new.shelf) (g.H.Shelf.view c.finish.new.shelf) c.finish.ensures.asked (c.outcome.ensures.asked t);
      none_behind = inputs_behind _ (plain_sources c.args.sources.now) (plain_payment c.args.payment.now) ends.wallet ends.blocks ends.asked (g.H.Shelf.view c.args.shelf.now) (g.H.Shelf.view c.finish.new.shelf) ends.inputs;
    }

pub returns-in-Funded-clause-asks : goal.returns-in-Funded-clause-asks
returns-in-Funded-clause-asks g c =
    let ends = rw c.in-Funded.is at c.in-Ok.ensures.ends in
    record {
      asked = λ t. asked_on (plain_sources c.args.sources.now) (plain_payment c.args.payment.now) (g.H.Shelf.view c.args.shelf.now) (g.H.Shelf.view c.outcome.new.shelf) (g.H.Shelf.view c.finish-in-Funded.new.shelf) c.finish-in-Funded.ensures.asked (c.outcome.ensures.asked t);
      none_behind = inputs_behind _ (plain_sources c.args.sources.now) (plain_payment c.args.payment.now) ends.wallet ends.blocks ends.asked (g.H.Shelf.view c.args.shelf.now) (g.H.Shelf.view c.finish-in-Funded.new.shelf) ends.inputs;
    }

pub returns-in-Err-clause-asks : goal.returns-in-Err-clause-asks
returns-in-Err-clause-asks g c = record { asked = c.outcome.ensures.asked; none_behind = c.outcome.ensures.none_behind }

-- ---- what is kept

pub leave-requires : goal.leave-requires
leave-requires g c =
    let ended = rw c.in-Unfinished.is at c.in-Ok.ensures.ends in
    ended.1.can

pub returns-in-Unfinished-clause-jobs : goal.returns-in-Unfinished-clause-jobs
returns-in-Unfinished-clause-jobs g c = c.leave.ensures.jobs

pub returns-in-NoSelection-clause-jobs : goal.returns-in-NoSelection-clause-jobs
returns-in-NoSelection-clause-jobs g c = λ t. same_jobs _ _ (g.K.Keeper.view c.args.keeper.now) (g.K.Keeper.view c.args.keeper.now) refl

pub returns-in-Funded-clause-jobs : goal.returns-in-Funded-clause-jobs
returns-in-Funded-clause-jobs g c = λ t. same_jobs _ _ (g.K.Keeper.view c.args.keeper.now) (g.K.Keeper.view c.args.keeper.now) refl

pub returns-in-Err-clause-jobs : goal.returns-in-Err-clause-jobs
returns-in-Err-clause-jobs g c = λ t. same_jobs _ _ (g.K.Keeper.view c.args.keeper.now) (g.K.Keeper.view c.args.keeper.now) refl

-- ---- failures

pub returns-in-Unfinished-clause-honest : goal.returns-in-Unfinished-clause-honest
returns-in-Unfinished-clause-honest g c = record {
  all_read = λ other. c.in-Ok.ensures.all_read (λ file e. cc);
  all_written = λ other. c.outcome.ensures.frame.writes;
  all_put = c.leave.ensures.all_put;
  unfailed = c.leave.ensures.unfailed;
}

pub returns-in-NoSelection-clause-honest : goal.returns-in-NoSelection-clause-honest
returns-in-NoSelection-clause-honest g c = record {
  all_read = λ other. c.finish.ensures.reads ∙ c.in-Ok.ensures.all_read (λ file e. cc);
  all_written = λ other. c.finish.ensures.all_written other ∙ c.outcome.ensures.frame.writes;
  all_put = put_whole (g.O.Sink.view c.args.out.now) (g.O.Sink.view c.finish.new.out) c.finish.result c.finish.ensures.all_put;
  unfailed = λ other. refl;
}

pub returns-in-Funded-clause-honest : goal.returns-in-Funded-clause-honest
returns-in-Funded-clause-honest g c = record {
  all_read = λ other. c.finish-in-Funded.ensures.reads ∙ c.in-Ok.ensures.all_read (λ file e. cc);
  all_written = λ other. c.finish-in-Funded.ensures.all_written other ∙ c.outcome.ensures.frame.writes;
  all_put = put_whole (g.O.Sink.view c.args.out.now) (g.O.Sink.view c.finish-in-Funded.new.out) c.finish-in-Funded.result c.finish-in-Funded.ensures.all_put;
  unfailed = λ other. refl;
}

pub returns-in-Err-clause-honest : goal.returns-in-Err-clause-honest
returns-in-Err-clause-honest g c = record {
  all_read = λ other. c.in-Err.ensures.all_read (λ file e. other (c.answer.ensures.read file cc));
  all_written = λ other. c.outcome.ensures.frame.writes;
  all_put = λ whole. absurd (stop_untold _ (plain_sources c.args.sources.now) (plain_payment c.args.payment.now) c.in-Err.stop (g.O.Sink.view c.args.out.now) (g.O.Sink.view c.answer.new.out) c.answer.result c.answer.ensures.answered whole);
  unfailed = λ other. refl;
}
