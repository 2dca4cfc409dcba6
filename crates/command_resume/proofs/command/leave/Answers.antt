use Rattle.std.proofs.Common.{inl, inr, refl}
use Rattle.command_end.proofs.WholeLaws.{not_whole, put_whole}
use Rattle.command_end.specs.declared.status.Status.TheVariants as statuses
use Rattle.command_inputs.proofs.JobLaws.{put_jobs, same_jobs}
use Rattle.command_resume.proofs.command.leave.Goals as goal

pub keep-requires : goal.keep-requires
keep-requires g c = record { room = c.requires.few; kept = c.requires.can }

pub returns-in-Ok-clause-left : goal.returns-in-Ok-clause-left
returns-in-Ok-clause-left g c = inl (rw c.deref.ensures.value at c.put_report.ensures.ends, λ k. record { saved = c.in-Ok.ensures.kept k; others = c.keep.ensures.others k })

pub returns-in-Ok-clause-jobs : goal.returns-in-Ok-clause-jobs
returns-in-Ok-clause-jobs g c = λ k.
    put_jobs _ c.args.left.now.report.items c.args.job.now (g.O.Sink.view c.args.out.now) (g.O.Sink.view c.put_report.new.out) (g.K.Keeper.view c.args.keeper.now) (g.K.Keeper.view c.keep.new.keeper) c.put_report.result (rw c.deref.ensures.value at c.put_report.ensures.ends) (c.keep.ensures.others k)

pub returns-in-Err-Failed-clause-left : goal.returns-in-Err-Failed-clause-left
returns-in-Err-Failed-clause-left g c =
    let e = rw c.in-Err-Failed.field-0-is at c.in-Err-Failed.ensures in
    inr (inl (c.refuse_keep.ensures.is, e.cause refl, c.refuse_keep.ensures.line), λ k. e.same k)

pub returns-in-Err-Failed-clause-jobs : goal.returns-in-Err-Failed-clause-jobs
returns-in-Err-Failed-clause-jobs g c = λ k. same_jobs _ _ (g.K.Keeper.view c.args.keeper.now) (g.K.Keeper.view c.keep.new.keeper) (c.in-Err-Failed.ensures.same k)

pub returns-in-Err-Memory-clause-left : goal.returns-in-Err-Memory-clause-left
returns-in-Err-Memory-clause-left g c =
    inr (inr (c.out_of_memory.ensures.is, c.out_of_memory.ensures.line), λ k. c.in-Err-Memory.ensures.same k)

pub returns-in-Err-Memory-clause-jobs : goal.returns-in-Err-Memory-clause-jobs
returns-in-Err-Memory-clause-jobs g c = λ k. same_jobs _ _ (g.K.Keeper.view c.args.keeper.now) (g.K.Keeper.view c.keep.new.keeper) (c.in-Err-Memory.ensures.same k)

-- ---- failed puts

pub returns-in-Ok-clause-all_put : goal.returns-in-Ok-clause-all_put
returns-in-Ok-clause-all_put g c = put_whole (g.O.Sink.view c.args.out.now) (g.O.Sink.view c.put_report.new.out) c.put_report.result c.put_report.ensures.all_put

pub returns-in-Err-Failed-clause-all_put : goal.returns-in-Err-Failed-clause-all_put
returns-in-Err-Failed-clause-all_put g c = λ whole. absurd (not_whole statuses.KeepFault c.refuse_keep.result (λ w. w) c.refuse_keep.ensures.is whole)

pub returns-in-Err-Memory-clause-all_put : goal.returns-in-Err-Memory-clause-all_put
returns-in-Err-Memory-clause-all_put g c = λ whole. absurd (not_whole statuses.Memory c.out_of_memory.result (λ w. w) c.out_of_memory.ensures.is whole)
