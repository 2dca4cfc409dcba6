use Rattle.std.proofs.Common.{string_bytes}
use Rattle.command_end.proofs.WholeLaws.{put_whole}
use Rattle.command_settle.specs.Names.{plain_names}
use Rattle.command_settle.proofs.EndsLaws.{ends_complete, ends_refused, settled_ends, stop_ends, stop_untold}
use Rattle.command_settle.proofs.command.settle_payment.Goals as goal

pub returns-in-Ok-clause-ends : goal.returns-in-Ok-clause-ends
returns-in-Ok-clause-ends g c =
    settled_ends _ _ (plain_names c.args.names.now) (g.H.Shelf.view c.args.shelf.now) (g.H.Shelf.view c.settled.new.shelf) (g.O.Sink.view c.args.out.now) (g.O.Sink.view c.put_report.new.out) (string_bytes c.in-Ok.text) c.put_report.result
    c.in-Ok.ensures.settled (rw c.as_bytes.ensures.value at c.put_report.ensures.ends)

pub returns-in-Err-clause-ends : goal.returns-in-Err-clause-ends
returns-in-Err-clause-ends g c =
    stop_ends _ _ (plain_names c.args.names.now) (g.H.Shelf.view c.args.shelf.now) (g.H.Shelf.view c.settled.new.shelf) (g.O.Sink.view c.args.out.now) (g.O.Sink.view c.answer.new.out) c.in-Err.stop c.answer.result c.in-Err.ensures.stop c.answer.ensures.answered

pub returns-in-Ok-clause-all_read : goal.returns-in-Ok-clause-all_read
returns-in-Ok-clause-all_read g c = λ other. c.in-Ok.ensures.all_read (λ file e. cc)

pub returns-in-Err-clause-all_read : goal.returns-in-Err-clause-all_read
returns-in-Err-clause-all_read g c = λ other. c.in-Err.ensures.all_read (λ file e. other (c.answer.ensures.read file cc))

pub returns-in-Ok-clause-all_put : goal.returns-in-Ok-clause-all_put
returns-in-Ok-clause-all_put g c = put_whole (g.O.Sink.view c.args.out.now) (g.O.Sink.view c.put_report.new.out) c.put_report.result c.put_report.ensures.all_put

pub returns-in-Err-clause-all_put : goal.returns-in-Err-clause-all_put
returns-in-Err-clause-all_put g c = λ whole. absurd (stop_untold _ (plain_names c.args.names.now) c.in-Err.stop (g.O.Sink.view c.args.out.now) (g.O.Sink.view c.answer.new.out) c.answer.result c.answer.ensures.answered whole)

pub returns-in-Ok-clause-due : goal.returns-in-Ok-clause-due
returns-in-Ok-clause-due g c = record {
  refused = λ t none o due not.
      ends_refused _ g.O.Sink.tells (plain_names c.args.names.now) (g.H.Shelf.view c.args.shelf.now) (g.H.Shelf.view c.settled.new.shelf) (g.O.Sink.view c.args.out.now) (g.O.Sink.view c.put_report.new.out) t o due none not c.put_report.result (returns-in-Ok-clause-ends g c);
  complete = λ t none o due.
      ends_complete _ g.O.Sink.tells (plain_names c.args.names.now) (g.H.Shelf.view c.args.shelf.now) (g.H.Shelf.view c.settled.new.shelf) (g.O.Sink.view c.args.out.now) (g.O.Sink.view c.put_report.new.out) t o due none c.put_report.result (returns-in-Ok-clause-ends g c);
}

pub returns-in-Err-clause-due : goal.returns-in-Err-clause-due
returns-in-Err-clause-due g c = record {
  refused = λ t none o due not.
      ends_refused _ g.O.Sink.tells (plain_names c.args.names.now) (g.H.Shelf.view c.args.shelf.now) (g.H.Shelf.view c.settled.new.shelf) (g.O.Sink.view c.args.out.now) (g.O.Sink.view c.answer.new.out) t o due none not c.answer.result (returns-in-Err-clause-ends g c);
  complete = λ t none o due.
      ends_complete _ g.O.Sink.tells (plain_names c.args.names.now) (g.H.Shelf.view c.args.shelf.now) (g.H.Shelf.view c.settled.new.shelf) (g.O.Sink.view c.args.out.now) (g.O.Sink.view c.answer.new.out) t o due none c.answer.result (returns-in-Err-clause-ends g c);
}
