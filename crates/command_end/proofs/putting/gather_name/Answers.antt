use Rattle.command_end.specs.Name.{shown_name}
use Rattle.command_end.proofs.PutLaws.{gathered_on, lost_first, lost_later, on_err}
use Rattle.command_end.proofs.putting.gather_name.Goals as goal

pub returns-in_err-gather-clause-cut : goal.returns-in_err-gather-clause-cut
returns-in_err-gather-clause-cut g c = on_err _ _
    (lost_first g.O.Sink.tells c.args.word.now (shown_name c.args.name.now) c.args.held.now.items (g.O.Sink.view c.args.out.now) (g.O.Sink.view c.gather.new.out) (rw c.as_bytes.ensures.value at c.in_err-gather.ensures.cut))

pub returns-in_err-gather_bytewise-clause-cut : goal.returns-in_err-gather_bytewise-clause-cut
returns-in_err-gather_bytewise-clause-cut g c = on_err _ _
    (lost_later g.O.Sink.tells c.args.word.now (shown_name c.args.name.now) c.args.held.now.items c.gather.new.held.items (g.O.Sink.view c.args.out.now) (g.O.Sink.view c.gather.new.out) (g.O.Sink.view c.gather_bytewise.new.out) (rw c.as_bytes.ensures.value at c.in_ok-gather.ensures.whole) (rw c.as_bytes-2.ensures.value at c.in_err-gather_bytewise.ensures.cut))

pub returns-clause-whole : goal.returns-clause-whole
returns-clause-whole g c =
    (gathered_on g.O.Sink.tells c.args.word.now (shown_name c.args.name.now) c.args.held.now.items c.gather.new.held.items c.gather_bytewise.new.held.items (g.O.Sink.view c.args.out.now) (g.O.Sink.view c.gather.new.out) (g.O.Sink.view c.gather_bytewise.new.out) (rw c.as_bytes.ensures.value at c.in_ok-gather.ensures.whole) (rw c.as_bytes-2.ensures.value at c.in_ok-gather_bytewise.ensures.whole))
