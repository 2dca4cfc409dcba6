use Rattle.command_end.proofs.PutLaws.{bytes_cut, bytes_whole}
use Rattle.command_end.proofs.putting.put_held.Goals as goal

pub returns-clause-whole : goal.returns-clause-whole
returns-clause-whole g c =
    bytes_whole g.O.Sink.tells c.args.held.now.items (g.O.Sink.view c.args.out.now) (g.O.Sink.view c.put_all-put.new.out) c.put_all-put.result (rw c.as_slice.ensures.value at c.put_all-put.ensures.all) c.put_all-put.ensures.unfailed c.put_all-put.ensures.unrefused

pub returns-clause-cut : goal.returns-clause-cut
returns-clause-cut g c =
    bytes_cut g.O.Sink.tells c.args.held.now.items (g.O.Sink.view c.args.out.now) (g.O.Sink.view c.put_all-put.new.out) c.put_all-put.result (rw c.as_slice.ensures.value at c.put_all-put.ensures.part) c.put_all-put.ensures.faults c.put_all-put.ensures.refusals c.put_all-put.ensures.cause c.put_all-put.ensures.memory
