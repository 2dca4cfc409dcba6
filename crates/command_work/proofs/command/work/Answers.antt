use Rattle.command_end.proofs.WholeLaws.{put_whole}
use Rattle.command_work.proofs.EndLaws.{reads_none, run_ends, stop_ends, stop_untold}
use Rattle.command_work.proofs.command.work.Goals as goal

pub returns-in-Ok-clause-ends : goal.returns-in-Ok-clause-ends
returns-in-Ok-clause-ends g c =
    run_ends g.O.Sink.tells c.args.number c.args.count c.in-Ok.ended.status c.in-Ok.ended.summary.items (g.O.Sink.view c.args.out.now) (g.O.Sink.view c.put_report.new.out) c.put_report.result c.in-Ok.ensures.run
    (rw c.deref.ensures.value at c.put_report.ensures.ends)

pub answer-requires : goal.answer-requires
answer-requires g c = reads_none c.args.number c.args.count c.in-Err.stop c.in-Err.ensures.stop

pub returns-in-Err-clause-ends : goal.returns-in-Err-clause-ends
returns-in-Err-clause-ends g c =
    stop_ends g.O.Sink.tells c.args.number c.args.count c.in-Err.stop (g.O.Sink.view c.args.out.now) (g.O.Sink.view c.answer.new.out) c.answer.result c.in-Err.ensures.stop c.answer.ensures.answered

pub returns-in-Ok-clause-all_put : goal.returns-in-Ok-clause-all_put
returns-in-Ok-clause-all_put g c = put_whole (g.O.Sink.view c.args.out.now) (g.O.Sink.view c.put_report.new.out) c.put_report.result c.put_report.ensures.all_put

pub returns-in-Err-clause-all_put : goal.returns-in-Err-clause-all_put
returns-in-Err-clause-all_put g c = λ whole. absurd (stop_untold _ c.in-Err.stop (g.O.Sink.view c.args.out.now) (g.O.Sink.view c.answer.new.out) c.answer.result c.answer.ensures.answered whole)
