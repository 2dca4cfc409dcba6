use Rattle.std.proofs.Common.{length}
use Rattle.command_desk.proofs.SoFar.{SoFar}
use Rattle.command_desk.proofs.running.run_lines.Given as goal

abbrev pub invariant-lines : goal.invariant-lines
invariant-lines g l =
    SoFar g.H.Shelf.tells g.O.Sink.tells l.initial.rest l.initial.desk (g.H.Shelf.view l.initial.shelf) (g.O.Sink.view l.initial.out) l.rest l.desk l.is_first (g.H.Shelf.view l.shelf) (g.O.Sink.view l.out)

abbrev pub decreases-lines : goal.decreases-lines
decreases-lines g l = length l.rest
