use Rattle.std.proofs.Common.{◌∙◌, rules, subst, sym}
use Rattle.fund_shelf.specs.Causes.{Asks}
use Rattle.fund_files.proofs.FrameLaws.{only_reads_on}
use Rattle.command_desk.proofs.SaidLaws.{says_of}
use Rattle.command_desk.specs.Lent.{plain_line}
use Rattle.command_desk.specs.Line.{Line, Says, wanted}
use Rattle.command_desk.specs.Asked.{file_in}
use Rattle.command_desk.specs.Halts.{EndsAt, HaltsLine, IsDoneLine}
use Rattle.command_desk.specs.declared.halt.Halt.TheVariants as halts
use Rattle.command_desk.proofs.HaltLaws.{end_untold, halt_ends}
use Rattle.command_desk.proofs.LineLaws.{not_unread}
use Rattle.command_desk.proofs.SoFar.{asked_all, asked_whole, no_lines, so_far_all, so_far_more}
use Rattle.command_desk.proofs.running.run_lines.Goals as goal

pub do_line-requires : goal.do_line-requires
do_line-requires g c = (c.next_line.result.0.now, subst (λ (l : Line). Says c.next_line.result.0.now l) (sym c.parse-line.ensures) (says_of c.next_line.result.0.now))

pub returns-in-Err-clause-runs : goal.returns-in-Err-clause-runs
returns-in-Err-clause-runs g c =
    halt_ends g.H.Shelf.tells g.O.Sink.tells c.args.script.now c.args.desk.now (g.H.Shelf.view c.args.shelf.now) (g.O.Sink.view c.args.out.now) c.lines.rest.now c.lines.desk c.lines.is_first (g.H.Shelf.view c.lines.shelf) (g.O.Sink.view c.lines.out) c.next_line.result.0.now c.next_line.result.1.now
    c.lines.invariant c.next_line.ensures.parts (g.H.Shelf.view c.do_line.new.shelf) (g.O.Sink.view c.do_line.new.out) (g.O.Sink.view c.end_at.new.out)
    (subst (λ (l : Line). g.H.Shelf.tells → Asks (file_in (wanted l)) (g.H.Shelf.view c.lines.shelf).asked (g.H.Shelf.view c.do_line.new.shelf).asked) c.parse-line.ensures c.do_line.ensures.asked) c.in-Err.halt c.end_at.result
    (subst (λ (l : Line). HaltsLine g.H.Shelf.tells g.O.Sink.tells l c.lines.desk (g.H.Shelf.view c.lines.shelf) (g.H.Shelf.view c.do_line.new.shelf) (g.O.Sink.view c.lines.out) (g.O.Sink.view c.do_line.new.out) c.in-Err.halt) c.parse-line.ensures c.in-Err.ensures.halt)
    (subst (λ (l : Line). EndsAt g.O.Sink.tells l c.in-Err.halt c.lines.is_first (g.O.Sink.view c.do_line.new.out) (g.O.Sink.view c.end_at.new.out) c.end_at.result) c.parse-line.ensures c.end_at.ensures.ends)

pub returns-in-Err-clause-asked : goal.returns-in-Err-clause-asked
returns-in-Err-clause-asked g c =
    asked_all g.H.Shelf.tells g.O.Sink.tells c.args.script.now c.args.desk.now (g.H.Shelf.view c.args.shelf.now) (g.O.Sink.view c.args.out.now) c.lines.rest.now c.lines.desk c.lines.is_first (g.H.Shelf.view c.lines.shelf) (g.O.Sink.view c.lines.out) c.next_line.result.0.now c.next_line.result.1.now
    c.lines.invariant c.next_line.ensures.parts (g.H.Shelf.view c.do_line.new.shelf)
    (subst (λ (l : Line). g.H.Shelf.tells → Asks (file_in (wanted l)) (g.H.Shelf.view c.lines.shelf).asked (g.H.Shelf.view c.do_line.new.shelf).asked) c.parse-line.ensures c.do_line.ensures.asked)

pub returns-in-Err-clause-all_read : goal.returns-in-Err-clause-all_read
returns-in-Err-clause-all_read g c = λ other. c.do_line.ensures.all_read (not_unread c.do_line.result c.in-Err.halt c.in-Err.is (λ is. other (c.end_at.ensures.read is))) ∙ c.lines.invariant.all_read

pub returns-in-Err-clause-frame : goal.returns-in-Err-clause-frame
returns-in-Err-clause-frame g c = only_reads_on g.H.Shelf.tells (g.H.Shelf.view c.args.shelf.now) (g.H.Shelf.view c.lines.shelf) (g.H.Shelf.view c.do_line.new.shelf) c.lines.invariant.frame c.do_line.ensures.frame

pub lines-preserved : goal.lines-preserved
lines-preserved g c =
    so_far_more g.H.Shelf.tells g.O.Sink.tells c.args.script.now c.args.desk.now (g.H.Shelf.view c.args.shelf.now) (g.O.Sink.view c.args.out.now) c.lines.rest.now c.lines.desk c.lines.is_first (g.H.Shelf.view c.lines.shelf) (g.O.Sink.view c.lines.out) c.next_line.result.0.now c.next_line.result.1.now
    c.lines.invariant c.next_line.ensures.parts c.do_line.new.desk (g.H.Shelf.view c.do_line.new.shelf) (g.O.Sink.view c.do_line.new.out)
    (subst (λ (l : Line). IsDoneLine g.H.Shelf.tells g.O.Sink.tells (g.H.Shelf.view c.lines.shelf).files l c.lines.desk c.do_line.new.desk (g.O.Sink.view c.lines.out) (g.O.Sink.view c.do_line.new.out)) c.parse-line.ensures c.in_default.ensures.done)
    (subst (λ (l : Line). g.H.Shelf.tells → Asks (file_in (wanted l)) (g.H.Shelf.view c.lines.shelf).asked (g.H.Shelf.view c.do_line.new.shelf).asked) c.parse-line.ensures c.do_line.ensures.asked) c.do_line.ensures.frame
    (c.do_line.ensures.all_read (λ is. c.in_default.not-Err halts.Unread is)) c.do_line.ensures.counts c.in_default.ensures.all_put

pub returns-clause-runs : goal.returns-clause-runs
returns-clause-runs g c =
    so_far_all g.H.Shelf.tells g.O.Sink.tells c.args.script.now c.args.desk.now (g.H.Shelf.view c.args.shelf.now) (g.O.Sink.view c.args.out.now) c.lines.rest.now c.lines.desk c.lines.is_first (g.H.Shelf.view c.lines.shelf) (g.O.Sink.view c.lines.out)
    c.lines.invariant (no_lines c.lines.rest.now (search rules))

pub returns-clause-asked : goal.returns-clause-asked
returns-clause-asked g c =
    asked_whole g.H.Shelf.tells g.O.Sink.tells c.args.script.now c.args.desk.now (g.H.Shelf.view c.args.shelf.now) (g.O.Sink.view c.args.out.now) c.lines.rest.now c.lines.desk c.lines.is_first (g.H.Shelf.view c.lines.shelf) (g.O.Sink.view c.lines.out)
    c.lines.invariant (no_lines c.lines.rest.now (search rules))

pub returns-in-Err-clause-all_put : goal.returns-in-Err-clause-all_put
returns-in-Err-clause-all_put g c = λ whole. absurd (end_untold g.O.Sink.tells (plain_line c.parse-line.result) c.in-Err.halt c.lines.is_first (g.O.Sink.view c.do_line.new.out) (g.O.Sink.view c.end_at.new.out) c.end_at.result c.end_at.ensures.ends whole)

pub returns-clause-all_put : goal.returns-clause-all_put
returns-clause-all_put g c = λ whole. c.lines.invariant.took
