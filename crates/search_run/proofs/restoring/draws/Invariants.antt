use Rattle.std.proofs.Common.{drop, length}
use Rattle.search_run.proofs.ReplayLaws.{HasDrawnSome}
use Rattle.search_run.proofs.restoring.draws.Given as goal

abbrev pub invariant-drawing : goal.invariant-drawing
invariant-drawing l = HasDrawnSome l.seed l.steps l.fn.from l.at l.fn.trail l.trail

abbrev pub decreases-drawing : goal.decreases-drawing
decreases-drawing l = length (drop l.at l.steps)
