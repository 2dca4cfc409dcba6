use Rattle.std.proofs.Common.{refl}
use Rattle.command_end.specs.Lines.{fault_line}
use Rattle.command_end.specs.Parts.{parts_text}
use Rattle.command_end.proofs.PutLaws.{got_line, line_counts}
use Rattle.command_end.proofs.output.put_fault.Goals as goal

pub returns-clause-line : goal.returns-clause-line
returns-clause-line g c =
    got_line g.O.Sink.tells (fault_line (parts_text c.args.words.now)) (g.O.Sink.view c.args.out.now) (g.O.Sink.view c.put_words.new.out) c.put_words.result c.put_words.ensures.whole c.put_words.ensures.cut

pub returns-clause-answered : goal.returns-clause-answered
returns-clause-answered g c = (
  refl,
  got_line g.O.Sink.tells (fault_line (parts_text c.args.words.now)) (g.O.Sink.view c.args.out.now) (g.O.Sink.view c.put_words.new.out) c.put_words.result c.put_words.ensures.whole c.put_words.ensures.cut,
)

pub returns-clause-counts : goal.returns-clause-counts
returns-clause-counts g c =
    line_counts g.O.Sink.tells (fault_line (parts_text c.args.words.now)) (g.O.Sink.view c.args.out.now) (g.O.Sink.view c.put_words.new.out) c.put_words.result c.put_words.ensures.whole c.put_words.ensures.cut
