use Rattle.std.proofs.Common.{inl, inr}
use Rattle.command_end.proofs.WholeLaws.{put_whole}
use Rattle.command_end.specs.Names.{plain_sources}
use Rattle.command_end.specs.declared.status.Status.TheVariants as statuses
use Rattle.command_sweep.proofs.FinishLaws.{ends_complete, ends_refused, put_ends, stop_ends}
use Rattle.command_sweep.proofs.StopLaws.{stop_untold}
use Rattle.command_sweep.specs.Asked.{asked_by}
use Rattle.command_sweep.proofs.command.sweep.Goals as goal

pub returns-in-NoSelection-clause-ends : goal.returns-in-NoSelection-clause-ends
returns-in-NoSelection-clause-ends g c =
    let ended = rw c.in-NoSelection.is at c.in-Ok.ensures.ends in
    let report = c.in-NoSelection.report.items in
    put_ends _ _ (plain_sources c.args.sources.now) (asked_by c.args.request.now) report statuses.NoSelection (g.H.Shelf.view c.args.shelf.now) (g.H.Shelf.view c.outcome.new.shelf) (g.O.Sink.view c.args.out.now) (g.O.Sink.view c.put_report.new.out) c.put_report.result
    (inr ended) (λ put. (report, ended, put)) (rw c.deref.ensures.value at c.put_report.ensures.ends)

pub returns-in-NoSelection-clause-refused : goal.returns-in-NoSelection-clause-refused
returns-in-NoSelection-clause-refused g c = λ t read refusal. ends_refused _ _ (plain_sources c.args.sources.now) (asked_by c.args.request.now) (g.H.Shelf.view c.args.shelf.now) (g.H.Shelf.view c.outcome.new.shelf) (g.O.Sink.view c.args.out.now) (g.O.Sink.view c.put_report.new.out) t read refusal c.put_report.result (returns-in-NoSelection-clause-ends g c)

pub returns-in-NoSelection-clause-complete : goal.returns-in-NoSelection-clause-complete
returns-in-NoSelection-clause-complete g c = λ t none. ends_complete _ _ (plain_sources c.args.sources.now) (asked_by c.args.request.now) (g.H.Shelf.view c.args.shelf.now) (g.H.Shelf.view c.outcome.new.shelf) (g.O.Sink.view c.args.out.now) (g.O.Sink.view c.put_report.new.out) t none c.put_report.result (returns-in-NoSelection-clause-ends g c)

pub returns-in-NoSelection-clause-all_read : goal.returns-in-NoSelection-clause-all_read
returns-in-NoSelection-clause-all_read g c = λ other. c.in-Ok.ensures.all_read (λ file e. cc)

pub returns-in-NoSelection-clause-all_put : goal.returns-in-NoSelection-clause-all_put
returns-in-NoSelection-clause-all_put g c = put_whole (g.O.Sink.view c.args.out.now) (g.O.Sink.view c.put_report.new.out) c.put_report.result c.put_report.ensures.all_put

pub returns-in-Swept-clause-ends : goal.returns-in-Swept-clause-ends
returns-in-Swept-clause-ends g c =
    let ended = rw c.in-Swept.is at c.in-Ok.ensures.ends in
    let report = c.in-Swept.report.items in
    put_ends _ _ (plain_sources c.args.sources.now) (asked_by c.args.request.now) report statuses.Done (g.H.Shelf.view c.args.shelf.now) (g.H.Shelf.view c.outcome.new.shelf) (g.O.Sink.view c.args.out.now) (g.O.Sink.view c.put_report-in-Swept.new.out) c.put_report-in-Swept.result
    (inl ended) (λ put. (report, ended, put)) (rw c.deref-in-Swept.ensures.value at c.put_report-in-Swept.ensures.ends)

pub returns-in-Swept-clause-refused : goal.returns-in-Swept-clause-refused
returns-in-Swept-clause-refused g c = λ t read refusal. ends_refused _ _ (plain_sources c.args.sources.now) (asked_by c.args.request.now) (g.H.Shelf.view c.args.shelf.now) (g.H.Shelf.view c.outcome.new.shelf) (g.O.Sink.view c.args.out.now) (g.O.Sink.view c.put_report-in-Swept.new.out) t read refusal c.put_report-in-Swept.result (returns-in-Swept-clause-ends g c)

pub returns-in-Swept-clause-complete : goal.returns-in-Swept-clause-complete
returns-in-Swept-clause-complete g c = λ t none. ends_complete _ _ (plain_sources c.args.sources.now) (asked_by c.args.request.now) (g.H.Shelf.view c.args.shelf.now) (g.H.Shelf.view c.outcome.new.shelf) (g.O.Sink.view c.args.out.now) (g.O.Sink.view c.put_report-in-Swept.new.out) t none c.put_report-in-Swept.result (returns-in-Swept-clause-ends g c)

pub returns-in-Swept-clause-all_read : goal.returns-in-Swept-clause-all_read
returns-in-Swept-clause-all_read g c = λ other. c.in-Ok.ensures.all_read (λ file e. cc)

pub returns-in-Swept-clause-all_put : goal.returns-in-Swept-clause-all_put
returns-in-Swept-clause-all_put g c = put_whole (g.O.Sink.view c.args.out.now) (g.O.Sink.view c.put_report-in-Swept.new.out) c.put_report-in-Swept.result c.put_report-in-Swept.ensures.all_put

pub returns-in-Err-clause-ends : goal.returns-in-Err-clause-ends
returns-in-Err-clause-ends g c =
    stop_ends _ _ (plain_sources c.args.sources.now) (asked_by c.args.request.now) c.in-Err.stop (g.H.Shelf.view c.args.shelf.now) (g.H.Shelf.view c.outcome.new.shelf) (g.O.Sink.view c.args.out.now) (g.O.Sink.view c.answer_stop.new.out) c.answer_stop.result c.in-Err.ensures.stop c.answer_stop.ensures.answered

pub returns-in-Err-clause-refused : goal.returns-in-Err-clause-refused
returns-in-Err-clause-refused g c = λ t read refusal. ends_refused _ _ (plain_sources c.args.sources.now) (asked_by c.args.request.now) (g.H.Shelf.view c.args.shelf.now) (g.H.Shelf.view c.outcome.new.shelf) (g.O.Sink.view c.args.out.now) (g.O.Sink.view c.answer_stop.new.out) t read refusal c.answer_stop.result (returns-in-Err-clause-ends g c)

pub returns-in-Err-clause-complete : goal.returns-in-Err-clause-complete
returns-in-Err-clause-complete g c = λ t none. ends_complete _ _ (plain_sources c.args.sources.now) (asked_by c.args.request.now) (g.H.Shelf.view c.args.shelf.now) (g.H.Shelf.view c.outcome.new.shelf) (g.O.Sink.view c.args.out.now) (g.O.Sink.view c.answer_stop.new.out) t none c.answer_stop.result (returns-in-Err-clause-ends g c)

pub returns-in-Err-clause-all_read : goal.returns-in-Err-clause-all_read
returns-in-Err-clause-all_read g c = λ other. c.in-Err.ensures.all_read (λ file e. other (c.answer_stop.ensures.read file cc))

pub returns-in-Err-clause-all_put : goal.returns-in-Err-clause-all_put
returns-in-Err-clause-all_put g c = λ whole.
    absurd (stop_untold _ (plain_sources c.args.sources.now) (asked_by c.args.request.now) c.in-Err.stop (g.O.Sink.view c.args.out.now) (g.O.Sink.view c.answer_stop.new.out) c.answer_stop.result c.answer_stop.ensures.answered whole)
