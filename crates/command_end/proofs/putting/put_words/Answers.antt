use Rattle.command_end.specs.Lines.{fault_line}
use Rattle.command_end.specs.Parts.{parts_text}
use Rattle.command_end.proofs.PutLaws.{cut_end, on_err, whole_end}
use Rattle.command_end.proofs.putting.put_words.Goals as goal

pub returns-in_err-gather_line-clause-cut : goal.returns-in_err-gather_line-clause-cut
returns-in_err-gather_line-clause-cut g c = on_err _ _ (rw c.new-held.ensures at c.in_err-gather_line.ensures.cut)

pub returns-in_err-put_held-clause-cut : goal.returns-in_err-put_held-clause-cut
returns-in_err-put_held-clause-cut g c = on_err _ _
    (cut_end g.O.Sink.tells (fault_line (parts_text c.args.words.now)) c.gather_line.new.held.items (g.O.Sink.view c.args.out.now) (g.O.Sink.view c.gather_line.new.out) (g.O.Sink.view c.put_held.new.out) (rw c.new-held.ensures at c.in_ok-gather_line.ensures.whole) c.in_err-put_held.ensures.cut)

pub returns-clause-whole : goal.returns-clause-whole
returns-clause-whole g c =
    whole_end g.O.Sink.tells (fault_line (parts_text c.args.words.now)) c.gather_line.new.held.items (g.O.Sink.view c.args.out.now) (g.O.Sink.view c.gather_line.new.out) (g.O.Sink.view c.put_held.new.out) (rw c.new-held.ensures at c.in_ok-gather_line.ensures.whole) c.in_ok-put_held.ensures.whole
