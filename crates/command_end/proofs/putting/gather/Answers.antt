use Rattle.command_end.proofs.PutLaws.{byte_lost, byte_next, gathered_none, on_err}
use Rattle.command_end.proofs.putting.gather.Goals as goal

pub loop-byte-init : goal.loop-byte-init
loop-byte-init g c = gathered_none g.O.Sink.tells c.args.held.now.items (g.O.Sink.view c.args.out.now)

pub loop-byte-preserved : goal.loop-byte-preserved
loop-byte-preserved g c =
    byte_next g.O.Sink.tells c.args.bytes.now c.loop-byte.byte-index 0 c.args.held.now.items c.loop-byte.held.items c.gather_byte.new.held.items (g.O.Sink.view c.args.out.now) (g.O.Sink.view c.loop-byte.out) (g.O.Sink.view c.gather_byte.new.out) c.loop-byte-test.true
    c.loop-byte.invariant c.in_ok-gather_byte.ensures.whole

pub returns-in_err-gather_byte-clause-cut : goal.returns-in_err-gather_byte-clause-cut
returns-in_err-gather_byte-clause-cut g c = on_err _ _
    (byte_lost g.O.Sink.tells c.args.bytes.now c.loop-byte.byte-index 0 c.args.held.now.items c.loop-byte.held.items (g.O.Sink.view c.args.out.now) (g.O.Sink.view c.loop-byte.out) (g.O.Sink.view c.gather_byte.new.out) c.loop-byte-test.true
    c.loop-byte.invariant c.in_err-gather_byte.ensures.cut)
