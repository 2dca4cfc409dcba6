use Rattle.std.proofs.Common.{◌∙◌}
use Rattle.fund_files.proofs.FrameLaws.{only_reads_on}
use Rattle.command_end.specs.Names.{plain_sources}
use Rattle.command_desk.proofs.EndsLaws.{read_alone, run_asked, run_behind, run_ends, stop_asked}
use Rattle.command_desk.proofs.StopLaws.{stop_ends, stop_untold}
use Rattle.command_desk.proofs.OutcomeLaws.{ends_complete, ends_refused}
use Rattle.command_desk.proofs.command.desk.Goals as goal

pub returns-in-Ok-clause-ends : goal.returns-in-Ok-clause-ends
returns-in-Ok-clause-ends g c =
    run_ends g.H.Shelf.tells g.O.Sink.tells (plain_sources c.args.sources.now) c.args.script.now c.in-Ok.field-0.text.items c.in-Ok.field-0.desk (g.H.Shelf.view c.args.shelf.now) (g.H.Shelf.view c.read_start.new.shelf) (g.H.Shelf.view c.run_lines.new.shelf) (g.O.Sink.view c.args.out.now)
    (g.O.Sink.view c.run_lines.new.out) c.in-Ok.ensures.starts c.read_start.ensures.frame c.read_start.ensures.asked c.run_lines.result (rw c.deref.ensures.value at c.run_lines.ensures.runs)

pub returns-in-Ok-clause-frame : goal.returns-in-Ok-clause-frame
returns-in-Ok-clause-frame g c = only_reads_on g.H.Shelf.tells (g.H.Shelf.view c.args.shelf.now) (g.H.Shelf.view c.read_start.new.shelf) (g.H.Shelf.view c.run_lines.new.shelf) c.read_start.ensures.frame c.run_lines.ensures.frame

pub returns-in-Ok-clause-all_read : goal.returns-in-Ok-clause-all_read
returns-in-Ok-clause-all_read g c = λ other. c.run_lines.ensures.all_read other ∙ c.read_start.ensures.all_read (λ is. read_alone _ _ _ _ _ c.in-Ok.is is) (λ file is. read_alone _ _ _ _ _ c.in-Ok.is is)

pub returns-in-Ok-clause-asked : goal.returns-in-Ok-clause-asked
returns-in-Ok-clause-asked g c =
    run_asked g.H.Shelf.tells g.O.Sink.tells (plain_sources c.args.sources.now) c.args.script.now c.in-Ok.field-0.text.items c.in-Ok.field-0.desk (g.H.Shelf.view c.args.shelf.now) (g.H.Shelf.view c.read_start.new.shelf) (g.H.Shelf.view c.run_lines.new.shelf) (g.O.Sink.view c.args.out.now)
    (g.O.Sink.view c.run_lines.new.out) c.in-Ok.ensures.starts c.read_start.ensures.frame c.read_start.ensures.asked (rw c.deref.ensures.value at c.run_lines.ensures.asked)

pub returns-in-Ok-clause-none_behind : goal.returns-in-Ok-clause-none_behind
returns-in-Ok-clause-none_behind g c = λ t.
    run_behind g.H.Shelf.tells g.O.Sink.tells (plain_sources c.args.sources.now) c.args.script.now c.in-Ok.field-0.text.items c.in-Ok.field-0.desk (g.H.Shelf.view c.args.shelf.now) (g.H.Shelf.view c.read_start.new.shelf) (g.H.Shelf.view c.run_lines.new.shelf) (g.O.Sink.view c.args.out.now)
    (g.O.Sink.view c.run_lines.new.out) c.in-Ok.ensures.starts c.read_start.ensures.frame c.read_start.ensures.asked t

pub returns-in-Err-clause-ends : goal.returns-in-Err-clause-ends
returns-in-Err-clause-ends g c =
    stop_ends g.H.Shelf.tells g.O.Sink.tells (plain_sources c.args.sources.now) c.args.script.now (g.H.Shelf.view c.args.shelf.now) (g.H.Shelf.view c.read_start.new.shelf) (g.O.Sink.view c.args.out.now) (g.O.Sink.view c.answer.new.out) c.in-Err.stop c.answer.result c.in-Err.ensures.stop
    c.answer.ensures.answered

pub returns-in-Err-clause-asked : goal.returns-in-Err-clause-asked
returns-in-Err-clause-asked g c = λ t. stop_asked (plain_sources c.args.sources.now) c.args.script.now (g.H.Shelf.view c.args.shelf.now) (g.H.Shelf.view c.read_start.new.shelf) (c.read_start.ensures.asked t)

pub returns-in-Ok-clause-all_put : goal.returns-in-Ok-clause-all_put
returns-in-Ok-clause-all_put g c = c.run_lines.ensures.all_put

pub returns-in-Err-clause-all_put : goal.returns-in-Err-clause-all_put
returns-in-Err-clause-all_put g c = λ whole.
    absurd (stop_untold g.O.Sink.tells (plain_sources c.args.sources.now) c.args.script.now c.in-Err.stop (g.O.Sink.view c.args.out.now) (g.O.Sink.view c.answer.new.out) c.answer.result c.answer.ensures.answered whole)

pub returns-in-Ok-clause-refused : goal.returns-in-Ok-clause-refused
returns-in-Ok-clause-refused g c = λ t none refusal.
    ends_refused g.H.Shelf.tells g.O.Sink.tells (plain_sources c.args.sources.now) c.args.script.now (g.H.Shelf.view c.args.shelf.now) (g.H.Shelf.view c.run_lines.new.shelf) (g.O.Sink.view c.args.out.now) (g.O.Sink.view c.run_lines.new.out) t none refusal
    c.run_lines.result (returns-in-Ok-clause-ends g c)

pub returns-in-Err-clause-refused : goal.returns-in-Err-clause-refused
returns-in-Err-clause-refused g c = λ t none refusal.
    ends_refused g.H.Shelf.tells g.O.Sink.tells (plain_sources c.args.sources.now) c.args.script.now (g.H.Shelf.view c.args.shelf.now) (g.H.Shelf.view c.read_start.new.shelf) (g.O.Sink.view c.args.out.now) (g.O.Sink.view c.answer.new.out) t none refusal
    c.answer.result (returns-in-Err-clause-ends g c)

pub returns-in-Ok-clause-complete : goal.returns-in-Ok-clause-complete
returns-in-Ok-clause-complete g c = λ t none.
    ends_complete g.H.Shelf.tells g.O.Sink.tells (plain_sources c.args.sources.now) c.args.script.now (g.H.Shelf.view c.args.shelf.now) (g.H.Shelf.view c.run_lines.new.shelf) (g.O.Sink.view c.args.out.now) (g.O.Sink.view c.run_lines.new.out) t none c.run_lines.result
    (returns-in-Ok-clause-ends g c)

pub returns-in-Err-clause-complete : goal.returns-in-Err-clause-complete
returns-in-Err-clause-complete g c = λ t none.
    ends_complete g.H.Shelf.tells g.O.Sink.tells (plain_sources c.args.sources.now) c.args.script.now (g.H.Shelf.view c.args.shelf.now) (g.H.Shelf.view c.read_start.new.shelf) (g.O.Sink.view c.args.out.now) (g.O.Sink.view c.answer.new.out) t none c.answer.result
    (returns-in-Err-clause-ends g c)
