use Rattle.command_end.proofs.ChainLaws.{printed_read}
use Rattle.command_complete.proofs.AskingLaws.{stop_asks}
use Rattle.command_complete.proofs.EndsLaws.{printed_ends, stop_ends, stop_untold}
use Rattle.command_end.proofs.WholeLaws.{put_whole}
use Rattle.command_end.specs.Names.{plain_sources}
use Rattle.command_complete.proofs.EndsLaws.{ends_complete, ends_refused}
use Rattle.command_complete.proofs.command.complete.Goals as goal

pub returns-in-Ok-clause-ends : goal.returns-in-Ok-clause-ends
returns-in-Ok-clause-ends g c =
    printed_ends _ _ (plain_sources c.args.sources.now) c.args.psbt.now (g.H.Shelf.view c.args.shelf.now) (g.H.Shelf.view c.completed.new.shelf) (g.O.Sink.view c.args.out.now) (g.O.Sink.view c.put_report.new.out) c.in-Ok.text.items c.put_report.result c.in-Ok.ensures.made
    (rw c.deref.ensures.value at c.put_report.ensures.ends)

pub returns-in-Err-clause-ends : goal.returns-in-Err-clause-ends
returns-in-Err-clause-ends g c =
    stop_ends _ _ (plain_sources c.args.sources.now) c.args.psbt.now (g.H.Shelf.view c.args.shelf.now) (g.H.Shelf.view c.completed.new.shelf) (g.O.Sink.view c.args.out.now) (g.O.Sink.view c.answer.new.out) c.in-Err.stop c.answer.result c.in-Err.ensures.stop c.answer.ensures.answered

pub returns-in-Ok-clause-all_read : goal.returns-in-Ok-clause-all_read
returns-in-Ok-clause-all_read g c = λ other. c.in-Ok.ensures.unfailed

pub returns-in-Err-clause-all_read : goal.returns-in-Err-clause-all_read
returns-in-Err-clause-all_read g c = λ other. c.in-Err.ensures.unfailed (λ tells. other (c.answer.ensures.read tells))

-- ---- what is asked for

pub returns-in-Ok-clause-asks : goal.returns-in-Ok-clause-asks
returns-in-Ok-clause-asks g c = record {
  asked = c.completed.ensures.asked;
  unread_last = λ t is.
      absurd (printed_read _ c.in-Ok.text.items (g.O.Sink.view c.args.out.now) (g.O.Sink.view c.put_report.new.out) c.put_report.result (rw c.deref.ensures.value at c.put_report.ensures.ends) is);
  refused_alone = c.completed.ensures.refused_alone;
  chain_alone = c.completed.ensures.chain_alone;
}

pub returns-in-Err-clause-asks : goal.returns-in-Err-clause-asks
returns-in-Err-clause-asks g c = record {
  asked = c.completed.ensures.asked;
  unread_last = λ t is.
      stop_asks _ _ (plain_sources c.args.sources.now) c.args.psbt.now c.in-Err.stop (g.H.Shelf.view c.args.shelf.now) (g.H.Shelf.view c.completed.new.shelf) (g.O.Sink.view c.args.out.now) (g.O.Sink.view c.answer.new.out) c.answer.result c.in-Err.ensures.stop c.answer.ensures.answered
      (c.in-Err.ensures.up_to t) is;
  refused_alone = c.completed.ensures.refused_alone;
  chain_alone = c.completed.ensures.chain_alone;
}

-- ---- failed puts

pub returns-in-Ok-clause-all_put : goal.returns-in-Ok-clause-all_put
returns-in-Ok-clause-all_put g c = put_whole (g.O.Sink.view c.args.out.now) (g.O.Sink.view c.put_report.new.out) c.put_report.result c.put_report.ensures.all_put

pub returns-in-Err-clause-all_put : goal.returns-in-Err-clause-all_put
returns-in-Err-clause-all_put g c = λ whole.
    absurd (stop_untold _ (plain_sources c.args.sources.now) c.args.psbt.now c.in-Err.stop (g.O.Sink.view c.args.out.now) (g.O.Sink.view c.answer.new.out) c.answer.result c.answer.ensures.answered whole)

-- ---- the status that is due

pub returns-in-Ok-clause-due : goal.returns-in-Ok-clause-due
returns-in-Ok-clause-due g c = record {
  refused = λ t none o due not.
      ends_refused _ g.O.Sink.tells (plain_sources c.args.sources.now) c.args.psbt.now (g.H.Shelf.view c.args.shelf.now) (g.H.Shelf.view c.completed.new.shelf) (g.O.Sink.view c.args.out.now) (g.O.Sink.view c.put_report.new.out) t o due none not c.put_report.result (returns-in-Ok-clause-ends g c);
  complete = λ t none o due.
      ends_complete _ g.O.Sink.tells (plain_sources c.args.sources.now) c.args.psbt.now (g.H.Shelf.view c.args.shelf.now) (g.H.Shelf.view c.completed.new.shelf) (g.O.Sink.view c.args.out.now) (g.O.Sink.view c.put_report.new.out) t o due none c.put_report.result (returns-in-Ok-clause-ends g c);
}

pub returns-in-Err-clause-due : goal.returns-in-Err-clause-due
returns-in-Err-clause-due g c = record {
  refused = λ t none o due not.
      ends_refused _ g.O.Sink.tells (plain_sources c.args.sources.now) c.args.psbt.now (g.H.Shelf.view c.args.shelf.now) (g.H.Shelf.view c.completed.new.shelf) (g.O.Sink.view c.args.out.now) (g.O.Sink.view c.answer.new.out) t o due none not c.answer.result (returns-in-Err-clause-ends g c);
  complete = λ t none o due.
      ends_complete _ g.O.Sink.tells (plain_sources c.args.sources.now) c.args.psbt.now (g.H.Shelf.view c.args.shelf.now) (g.H.Shelf.view c.completed.new.shelf) (g.O.Sink.view c.args.out.now) (g.O.Sink.view c.answer.new.out) t o due none c.answer.result (returns-in-Err-clause-ends g c);
}
