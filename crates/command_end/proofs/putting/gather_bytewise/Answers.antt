use Rattle.std.proofs.Common.{get_or}
use Rattle.std.proofs.lemmas.List.{get_or_default}
use Rattle.command_end.specs.Name.{shown_byte, shown_name}
use Rattle.command_end.proofs.PutLaws.{gathered_next, gathered_none, lost_next, on_err}
use Rattle.command_end.proofs.putting.gather_bytewise.Goals as goal

pub loop-byte-init : goal.loop-byte-init
loop-byte-init g c = gathered_none g.O.Sink.tells c.args.held.now.items (g.O.Sink.view c.args.out.now)

pub loop-byte-preserved : goal.loop-byte-preserved
loop-byte-preserved g c =
    gathered_next g.O.Sink.tells shown_byte c.args.name.now c.loop-byte.byte-index (get_or c.args.name.now c.loop-byte.byte-index 0) c.args.held.now.items c.loop-byte.held.items c.gather_shown.new.held.items (g.O.Sink.view c.args.out.now) (g.O.Sink.view c.loop-byte.out) (g.O.Sink.view c.gather_shown.new.out) c.loop-byte-test.true
    (get_or_default c.args.name.now c.loop-byte.byte-index 0 (get_or c.args.name.now c.loop-byte.byte-index 0) c.loop-byte-test.true) c.loop-byte.invariant c.in_ok-gather_shown.ensures.whole

pub returns-in_err-gather_shown-clause-cut : goal.returns-in_err-gather_shown-clause-cut
unfolding shown_name
returns-in_err-gather_shown-clause-cut g c = on_err _ _
    (lost_next g.O.Sink.tells shown_byte c.args.name.now c.loop-byte.byte-index (get_or c.args.name.now c.loop-byte.byte-index 0) c.args.held.now.items c.loop-byte.held.items (g.O.Sink.view c.args.out.now) (g.O.Sink.view c.loop-byte.out) (g.O.Sink.view c.gather_shown.new.out) c.loop-byte-test.true
    (get_or_default c.args.name.now c.loop-byte.byte-index 0 (get_or c.args.name.now c.loop-byte.byte-index 0) c.loop-byte-test.true) c.loop-byte.invariant c.in_err-gather_shown.ensures.cut)
