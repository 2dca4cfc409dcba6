use Rattle.std.proofs.Common.{◌∙◌, ap, ℕ, inl, inr, List, refl}
use Rattle.command_end.proofs.WholeLaws.{put_whole}
use Rattle.command_end.specs.Names.{plain_sources}
use Rattle.command_end.specs.declared.status.Status.TheVariants as statuses
use Rattle.command_inputs.proofs.AskingLaws.{asked_on}
use Rattle.command_inputs.proofs.InputLaws.{none_behind}
use Rattle.command_inputs.specs.Names.{plain_payment}
use Rattle.command_share.proofs.FinishLaws.{ends_complete, ends_refused, finish_ends, put_ends, stop_ends}
use Rattle.command_share.proofs.StopLaws.{stop_untold}
use Rattle.command_share.proofs.command.share.Goals as goal

pub returns-in-Unfinished-clause-ends : goal.returns-in-Unfinished-clause-ends
returns-in-Unfinished-clause-ends g c =
    let ended = rw c.in-Unfinished.is at c.in-Ok.ensures.ends in
    put_ends _ _ (plain_sources c.args.sources.now) (plain_payment c.args.payment.now) c.in-Unfinished.report.items (g.H.Shelf.view c.args.shelf.now) (g.H.Shelf.view c.outcome.new.shelf) (g.O.Sink.view c.args.out.now) (g.O.Sink.view c.put_report.new.out) c.put_report.result
    c.outcome.ensures.frame ended (rw c.deref.ensures.value at c.put_report.ensures.ends)

pub returns-in-NoSelection-clause-ends : goal.returns-in-NoSelection-clause-ends
returns-in-NoSelection-clause-ends g c =
    let ends = rw c.in-NoSelection.is at c.in-Ok.ensures.ends in
    let f = rw (c.deref-in-NoSelection.ensures.value, c.deref-in-NoSelection-2.ensures.value) at c.finish.ensures in
    let t = c.in-NoSelection.texts in
    finish_ends _ _ (plain_sources c.args.sources.now) (plain_payment c.args.payment.now) t.report.items t.log.items statuses.NoSelection (g.H.Shelf.view c.args.shelf.now) (g.H.Shelf.view c.outcome.new.shelf) (g.H.Shelf.view c.finish.new.shelf) (g.O.Sink.view c.args.out.now) (g.O.Sink.view c.finish.new.out) c.finish.result
    (inr refl) c.outcome.ensures.frame (inr ends) (λ log put. (t.report.items, t.log.items, ends, log, put)) f.kinds f.log f.report f.write_fault f.memory

pub returns-in-Shared-clause-ends : goal.returns-in-Shared-clause-ends
returns-in-Shared-clause-ends g c =
    let ends = rw c.in-Shared.is at c.in-Ok.ensures.ends in
    let f = rw (c.deref-in-Shared.ensures.value, c.deref-in-Shared-2.ensures.value) at c.finish-in-Shared.ensures in
    let t = c.in-Shared.texts in
    finish_ends _ _ (plain_sources c.args.sources.now) (plain_payment c.args.payment.now) t.report.items t.log.items statuses.Done (g.H.Shelf.view c.args.shelf.now) (g.H.Shelf.view c.outcome.new.shelf) (g.H.Shelf.view c.finish-in-Shared.new.shelf) (g.O.Sink.view c.args.out.now) (g.O.Sink.view c.finish-in-Shared.new.out) c.finish-in-Shared.result
    (inl refl) c.outcome.ensures.frame (inl ends) (λ log put. (t.report.items, t.log.items, ends, log, put)) f.kinds f.log f.report f.write_fault f.memory

pub returns-in-Err-clause-ends : goal.returns-in-Err-clause-ends
returns-in-Err-clause-ends g c =
    stop_ends _ _ (plain_sources c.args.sources.now) (plain_payment c.args.payment.now) c.in-Err.stop (g.H.Shelf.view c.args.shelf.now) (g.H.Shelf.view c.outcome.new.shelf) (g.O.Sink.view c.args.out.now) (g.O.Sink.view c.answer_stop.new.out) c.answer_stop.result
    c.in-Err.ensures.stop c.outcome.ensures.frame.same c.answer_stop.ensures.answered

-- ---- what is due

pub returns-in-Unfinished-clause-refused : goal.returns-in-Unfinished-clause-refused
returns-in-Unfinished-clause-refused g c = λ t read refusal.
    ends_refused _ _ (plain_sources c.args.sources.now) (plain_payment c.args.payment.now) (g.H.Shelf.view c.args.shelf.now) (g.H.Shelf.view c.outcome.new.shelf) (g.O.Sink.view c.args.out.now) (g.O.Sink.view c.put_report.new.out) t read refusal c.put_report.result (returns-in-Unfinished-clause-ends g c)

pub returns-in-NoSelection-clause-refused : goal.returns-in-NoSelection-clause-refused
returns-in-NoSelection-clause-refused g c = λ t read refusal.
    ends_refused _ _ (plain_sources c.args.sources.now) (plain_payment c.args.payment.now) (g.H.Shelf.view c.args.shelf.now) (g.H.Shelf.view c.finish.new.shelf) (g.O.Sink.view c.args.out.now) (g.O.Sink.view c.finish.new.out) t read refusal c.finish.result (returns-in-NoSelection-clause-ends g c)

pub returns-in-Shared-clause-refused : goal.returns-in-Shared-clause-refused
returns-in-Shared-clause-refused g c = λ t read refusal.
    ends_refused _ _ (plain_sources c.args.sources.now) (plain_payment c.args.payment.now) (g.H.Shelf.view c.args.shelf.now) (g.H.Shelf.view c.finish-in-Shared.new.shelf) (g.O.Sink.view c.args.out.now) (g.O.Sink.view c.finish-in-Shared.new.out) t read refusal c.finish-in-Shared.result (returns-in-Shared-clause-ends g c)

pub returns-in-Err-clause-refused : goal.returns-in-Err-clause-refused
returns-in-Err-clause-refused g c = λ t read refusal.
    ends_refused _ _ (plain_sources c.args.sources.now) (plain_payment c.args.payment.now) (g.H.Shelf.view c.args.shelf.now) (g.H.Shelf.view c.outcome.new.shelf) (g.O.Sink.view c.args.out.now) (g.O.Sink.view c.answer_stop.new.out) t read refusal c.answer_stop.result (returns-in-Err-clause-ends g c)

pub returns-in-Unfinished-clause-complete : goal.returns-in-Unfinished-clause-complete
returns-in-Unfinished-clause-complete g c = λ t none.
    ends_complete _ _ (plain_sources c.args.sources.now) (plain_payment c.args.payment.now) (g.H.Shelf.view c.args.shelf.now) (g.H.Shelf.view c.outcome.new.shelf) (g.O.Sink.view c.args.out.now) (g.O.Sink.view c.put_report.new.out) t none c.put_report.result (returns-in-Unfinished-clause-ends g c)

pub returns-in-NoSelection-clause-complete : goal.returns-in-NoSelection-clause-complete
returns-in-NoSelection-clause-complete g c = λ t none.
    ends_complete _ _ (plain_sources c.args.sources.now) (plain_payment c.args.payment.now) (g.H.Shelf.view c.args.shelf.now) (g.H.Shelf.view c.finish.new.shelf) (g.O.Sink.view c.args.out.now) (g.O.Sink.view c.finish.new.out) t none c.finish.result (returns-in-NoSelection-clause-ends g c)

pub returns-in-Shared-clause-complete : goal.returns-in-Shared-clause-complete
returns-in-Shared-clause-complete g c = λ t none.
    ends_complete _ _ (plain_sources c.args.sources.now) (plain_payment c.args.payment.now) (g.H.Shelf.view c.args.shelf.now) (g.H.Shelf.view c.finish-in-Shared.new.shelf) (g.O.Sink.view c.args.out.now) (g.O.Sink.view c.finish-in-Shared.new.out) t none c.finish-in-Shared.result (returns-in-Shared-clause-ends g c)

pub returns-in-Err-clause-complete : goal.returns-in-Err-clause-complete
returns-in-Err-clause-complete g c = λ t none.
    ends_complete _ _ (plain_sources c.args.sources.now) (plain_payment c.args.payment.now) (g.H.Shelf.view c.args.shelf.now) (g.H.Shelf.view c.outcome.new.shelf) (g.O.Sink.view c.args.out.now) (g.O.Sink.view c.answer_stop.new.out) t none c.answer_stop.result (returns-in-Err-clause-ends g c)

-- ---- what was asked for

pub returns-in-NoSelection-clause-asked : goal.returns-in-NoSelection-clause-asked
returns-in-NoSelection-clause-asked g c = λ t. asked_on (plain_sources c.args.sources.now) (plain_payment c.args.payment.now) (g.H.Shelf.view c.args.shelf.now) (g.H.Shelf.view c.outcome.new.shelf) (g.H.Shelf.view c.finish.new.shelf) c.finish.ensures.asked (c.outcome.ensures.asked t)

pub returns-in-Shared-clause-asked : goal.returns-in-Shared-clause-asked
returns-in-Shared-clause-asked g c = λ t. asked_on (plain_sources c.args.sources.now) (plain_payment c.args.payment.now) (g.H.Shelf.view c.args.shelf.now) (g.H.Shelf.view c.outcome.new.shelf) (g.H.Shelf.view c.finish-in-Shared.new.shelf) c.finish-in-Shared.ensures.asked (c.outcome.ensures.asked t)

pub returns-in-NoSelection-clause-none_behind : goal.returns-in-NoSelection-clause-none_behind
returns-in-NoSelection-clause-none_behind g c = λ t.
    let ends = rw c.in-NoSelection.is at c.in-Ok.ensures.ends in
    none_behind (plain_sources c.args.sources.now) ends.wallet ends.blocks (g.H.Shelf.view c.args.shelf.now) (g.H.Shelf.view c.finish.new.shelf) (ends.inputs t).all.chain

pub returns-in-Shared-clause-none_behind : goal.returns-in-Shared-clause-none_behind
returns-in-Shared-clause-none_behind g c = λ t.
    let ends = rw c.in-Shared.is at c.in-Ok.ensures.ends in
    none_behind (plain_sources c.args.sources.now) ends.wallet ends.blocks (g.H.Shelf.view c.args.shelf.now) (g.H.Shelf.view c.finish-in-Shared.new.shelf) (ends.inputs t).all.chain

-- ---- failed reads

pub returns-in-Unfinished-clause-all_read : goal.returns-in-Unfinished-clause-all_read
returns-in-Unfinished-clause-all_read g c = λ other. c.in-Ok.ensures.all_read (λ file e. cc)

pub returns-in-NoSelection-clause-others : goal.returns-in-NoSelection-clause-others
returns-in-NoSelection-clause-others g c = λ t other apart. c.finish.ensures.others t other apart ∙ ap (λ (files : List ℕ → List ℕ). files other) (c.outcome.ensures.frame.same t)

pub returns-in-NoSelection-clause-all_read : goal.returns-in-NoSelection-clause-all_read
returns-in-NoSelection-clause-all_read g c = λ other. c.finish.ensures.reads ∙ c.in-Ok.ensures.all_read (λ file e. cc)

pub returns-in-Shared-clause-all_read : goal.returns-in-Shared-clause-all_read
returns-in-Shared-clause-all_read g c = λ other. c.finish-in-Shared.ensures.reads ∙ c.in-Ok.ensures.all_read (λ file e. cc)

pub returns-in-Err-clause-all_read : goal.returns-in-Err-clause-all_read
returns-in-Err-clause-all_read g c = λ other. c.in-Err.ensures.all_read (λ file e. other (c.answer_stop.ensures.read file cc))

-- ---- failed writes

pub returns-in-Unfinished-clause-all_written : goal.returns-in-Unfinished-clause-all_written
returns-in-Unfinished-clause-all_written g c = λ other. c.outcome.ensures.frame.writes

pub returns-in-NoSelection-clause-all_written : goal.returns-in-NoSelection-clause-all_written
returns-in-NoSelection-clause-all_written g c = λ other. c.finish.ensures.all_written other ∙ c.outcome.ensures.frame.writes

pub returns-in-Shared-clause-all_written : goal.returns-in-Shared-clause-all_written
returns-in-Shared-clause-all_written g c = λ other. c.finish-in-Shared.ensures.all_written other ∙ c.outcome.ensures.frame.writes

pub returns-in-Err-clause-all_written : goal.returns-in-Err-clause-all_written
returns-in-Err-clause-all_written g c = λ other. c.outcome.ensures.frame.writes

-- ---- failed puts

pub returns-in-Unfinished-clause-all_put : goal.returns-in-Unfinished-clause-all_put
returns-in-Unfinished-clause-all_put g c = put_whole (g.O.Sink.view c.args.out.now) (g.O.Sink.view c.put_report.new.out) c.put_report.result c.put_report.ensures.all_put

pub returns-in-NoSelection-clause-all_put : goal.returns-in-NoSelection-clause-all_put
returns-in-NoSelection-clause-all_put g c = put_whole (g.O.Sink.view c.args.out.now) (g.O.Sink.view c.finish.new.out) c.finish.result c.finish.ensures.all_put

pub returns-in-Shared-clause-all_put : goal.returns-in-Shared-clause-all_put
returns-in-Shared-clause-all_put g c = put_whole (g.O.Sink.view c.args.out.now) (g.O.Sink.view c.finish-in-Shared.new.out) c.finish-in-Shared.result c.finish-in-Shared.ensures.all_put

pub returns-in-Err-clause-all_put : goal.returns-in-Err-clause-all_put
returns-in-Err-clause-all_put g c = λ whole.
    absurd (stop_untold _ (plain_sources c.args.sources.now) (plain_payment c.args.payment.now) c.in-Err.stop (g.O.Sink.view c.args.out.now) (g.O.Sink.view c.answer_stop.new.out) c.answer_stop.result c.answer_stop.ensures.answered whole)
