use Rattle.command_end.specs.Parts.{part_text}
use Rattle.command_end.proofs.PutLaws.{gathered_next, gathered_none, lost_next, on_err}
use Rattle.command_end.proofs.putting.gather_parts.Goals as goal

pub loop-part-init : goal.loop-part-init
loop-part-init g c = gathered_none g.O.Sink.tells c.args.held.now.items (g.O.Sink.view c.args.out.now)

pub loop-part-preserved : goal.loop-part-preserved
loop-part-preserved g c =
    gathered_next g.O.Sink.tells part_text c.args.parts.now c.loop-part.part-index c.part-item.result c.args.held.now.items c.loop-part.held.items c.gather_part.new.held.items (g.O.Sink.view c.args.out.now) (g.O.Sink.view c.loop-part.out) (g.O.Sink.view c.gather_part.new.out) c.loop-part-test.true c.part-item.is
    c.loop-part.invariant c.in_ok-gather_part.ensures.whole

pub returns-in_err-gather_part-clause-cut : goal.returns-in_err-gather_part-clause-cut
returns-in_err-gather_part-clause-cut g c = on_err _ _
    (lost_next g.O.Sink.tells part_text c.args.parts.now c.loop-part.part-index c.part-item.result c.args.held.now.items c.loop-part.held.items (g.O.Sink.view c.args.out.now) (g.O.Sink.view c.loop-part.out) (g.O.Sink.view c.gather_part.new.out) c.loop-part-test.true c.part-item.is
    c.loop-part.invariant c.in_err-gather_part.ensures.cut)
