use Rattle.std.proofs.Common.{◌≡◌, Result, Err, inl, inr}
use Rattle.command_end.proofs.WholeLaws.{put_whole}
use Rattle.command_end.specs.Names.{plain_sources}
use Rattle.command_inputs.specs.Names.{plain_job, plain_payment}
use Rattle.command_inputs.proofs.StopLaws.{stop_untold}
use Rattle.command_fund.proofs.LeavingLaws.{anew_jobs, not_left}
use Rattle.command_inputs.proofs.JobLaws.{same_jobs}
use Rattle.command_inputs.specs.declared.refusal.Stop.{Stop}
use Rattle.command_fund.proofs.command.leave.Goals as goal

same_stop : (a b : Stop) → ◌≡◌ {A = Result Unit Stop} (Err a) (Err b) → a ≡ b
same_stop a b e = cc

pub returns-in-Ok-clause-left : goal.returns-in-Ok-clause-left
returns-in-Ok-clause-left g c = inl (rw c.deref.ensures.value at c.put_report.ensures.ends, c.in-Ok.ensures.kept)

pub returns-in-Ok-clause-jobs : goal.returns-in-Ok-clause-jobs
returns-in-Ok-clause-jobs g c = λ k.
    anew_jobs _ _ c.args.left.now.report.items c.args.left.now.plan (plain_job c.args.job) c.args.digest (g.O.Sink.view c.args.out.now) (g.O.Sink.view c.put_report.new.out) (g.K.Keeper.view c.args.keeper.now) (g.K.Keeper.view c.keep_anew.new.keeper) c.put_report.result (rw c.deref.ensures.value at c.put_report.ensures.ends) c.in-Ok.ensures.kept k

pub returns-in-Err-clause-left : goal.returns-in-Err-clause-left
returns-in-Err-clause-left g c =
    inr (not_left _ (plain_sources c.args.sources.now) (plain_payment c.args.payment.now) (plain_job c.args.job) c.in-Err.stop (g.O.Sink.view c.args.out.now) (g.O.Sink.view c.answer.new.out) (g.K.Keeper.view c.args.keeper.now) (g.K.Keeper.view c.keep_anew.new.keeper) c.answer.result c.in-Err.ensures.stop c.answer.ensures.answered, λ k. c.in-Err.ensures.same k)

pub returns-in-Err-clause-jobs : goal.returns-in-Err-clause-jobs
returns-in-Err-clause-jobs g c = λ k. same_jobs _ _ (g.K.Keeper.view c.args.keeper.now) (g.K.Keeper.view c.keep_anew.new.keeper) (c.in-Err.ensures.same k)

pub returns-in-Err-clause-unfailed : goal.returns-in-Err-clause-unfailed
returns-in-Err-clause-unfailed g c = λ other. c.in-Err.ensures.unfailed (λ e. other (c.answer.ensures.keep (same_stop _ _ e)))

-- ---- failed puts

pub returns-in-Ok-clause-all_put : goal.returns-in-Ok-clause-all_put
returns-in-Ok-clause-all_put g c = put_whole (g.O.Sink.view c.args.out.now) (g.O.Sink.view c.put_report.new.out) c.put_report.result c.put_report.ensures.all_put

pub returns-in-Err-clause-all_put : goal.returns-in-Err-clause-all_put
returns-in-Err-clause-all_put g c = λ whole.
    absurd (stop_untold _ (plain_sources c.args.sources.now) (plain_payment c.args.payment.now) c.in-Err.stop (g.O.Sink.view c.args.out.now) (g.O.Sink.view c.answer.new.out) c.answer.result c.answer.ensures.answered whole)
