use Rattle.std.proofs.Common.{string_bytes}
use Rattle.command_end.proofs.WholeLaws.{put_whole}
use Rattle.command_end.specs.Names.{plain_sources}
use Rattle.command_inputs.specs.Names.{plain_payment}
use Rattle.command_check.proofs.EndsLaws.{stop_ends, stop_untold, vouched_ends}
use Rattle.command_check.proofs.EndsLaws.{ends_complete, ends_refused}
use Rattle.command_check.proofs.command.check.Goals as goal

pub returns-in-Ok-clause-ends : goal.returns-in-Ok-clause-ends
returns-in-Ok-clause-ends g c =
    vouched_ends _ _ (plain_sources c.args.sources.now) (plain_payment c.args.payment.now) c.args.report.now (g.H.Shelf.view c.args.shelf.now) (g.H.Shelf.view c.accepted.new.shelf) (g.O.Sink.view c.args.out.now) (g.O.Sink.view c.put_report.new.out)
    (string_bytes c.in-Ok.text) c.put_report.result c.in-Ok.ensures.accepted (rw c.as_bytes.ensures.value at c.put_report.ensures.ends)

pub returns-in-Err-clause-ends : goal.returns-in-Err-clause-ends
returns-in-Err-clause-ends g c =
    stop_ends _ _ (plain_sources c.args.sources.now) (plain_payment c.args.payment.now) c.args.report.now (g.H.Shelf.view c.args.shelf.now) (g.H.Shelf.view c.accepted.new.shelf) (g.O.Sink.view c.args.out.now) (g.O.Sink.view c.answer.new.out)
    c.in-Err.stop c.answer.result c.in-Err.ensures.stop c.answer.ensures.answered

pub returns-in-Ok-clause-all_read : goal.returns-in-Ok-clause-all_read
returns-in-Ok-clause-all_read g c = λ other. c.in-Ok.ensures.all_read (λ file e. cc) (λ file e. cc)

pub returns-in-Err-clause-all_read : goal.returns-in-Err-clause-all_read
returns-in-Err-clause-all_read g c = λ other. c.in-Err.ensures.all_read (λ file e. other (c.answer.ensures.read file cc)) (λ file e. other (c.answer.ensures.read_payment file cc))

pub returns-in-Ok-clause-all_put : goal.returns-in-Ok-clause-all_put
returns-in-Ok-clause-all_put g c = put_whole (g.O.Sink.view c.args.out.now) (g.O.Sink.view c.put_report.new.out) c.put_report.result c.put_report.ensures.all_put

pub returns-in-Err-clause-all_put : goal.returns-in-Err-clause-all_put
returns-in-Err-clause-all_put g c = λ whole.
    absurd (stop_untold _ (plain_sources c.args.sources.now) (plain_payment c.args.payment.now) c.args.report.now c.in-Err.stop (g.O.Sink.view c.args.out.now) (g.O.Sink.view c.answer.new.out) c.answer.result c.answer.ensures.answered whole)

pub returns-in-Ok-clause-due : goal.returns-in-Ok-clause-due
returns-in-Ok-clause-due g c = record {
  refused = λ t none o due not.
      ends_refused _ g.O.Sink.tells (plain_sources c.args.sources.now) (plain_payment c.args.payment.now) c.args.report.now (g.H.Shelf.view c.args.shelf.now) (g.H.Shelf.view c.accepted.new.shelf) (g.O.Sink.view c.args.out.now) (g.O.Sink.view c.put_report.new.out) t o due
      none not c.put_report.result (returns-in-Ok-clause-ends g c);
  complete = λ t none o due.
      ends_complete _ g.O.Sink.tells (plain_sources c.args.sources.now) (plain_payment c.args.payment.now) c.args.report.now (g.H.Shelf.view c.args.shelf.now) (g.H.Shelf.view c.accepted.new.shelf) (g.O.Sink.view c.args.out.now) (g.O.Sink.view c.put_report.new.out) t o due
      none c.put_report.result (returns-in-Ok-clause-ends g c);
}

pub returns-in-Err-clause-due : goal.returns-in-Err-clause-due
returns-in-Err-clause-due g c = record {
  refused = λ t none o due not.
      ends_refused _ g.O.Sink.tells (plain_sources c.args.sources.now) (plain_payment c.args.payment.now) c.args.report.now (g.H.Shelf.view c.args.shelf.now) (g.H.Shelf.view c.accepted.new.shelf) (g.O.Sink.view c.args.out.now) (g.O.Sink.view c.answer.new.out) t o due
      none not c.answer.result (returns-in-Err-clause-ends g c);
  complete = λ t none o due.
      ends_complete _ g.O.Sink.tells (plain_sources c.args.sources.now) (plain_payment c.args.payment.now) c.args.report.now (g.H.Shelf.view c.args.shelf.now) (g.H.Shelf.view c.accepted.new.shelf) (g.O.Sink.view c.args.out.now) (g.O.Sink.view c.answer.new.out) t o due
      none c.answer.result (returns-in-Err-clause-ends g c);
}

pub returns-in-Ok-clause-asks : goal.returns-in-Ok-clause-asks
returns-in-Ok-clause-asks g c = record { asked = c.accepted.ensures.asked; none_behind = c.accepted.ensures.none_behind; no_log = c.accepted.ensures.no_log; unread = c.accepted.ensures.unread }

pub returns-in-Err-clause-asks : goal.returns-in-Err-clause-asks
returns-in-Err-clause-asks g c = record { asked = c.accepted.ensures.asked; none_behind = c.accepted.ensures.none_behind; no_log = c.accepted.ensures.no_log; unread = c.accepted.ensures.unread }
