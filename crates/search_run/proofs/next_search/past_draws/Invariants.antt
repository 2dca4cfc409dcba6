use Rattle.std.proofs.Common.{drop, length}
use Rattle.search_run.proofs.ComingLaws.{IsOnWay}
use Rattle.search_run.proofs.next_search.past_draws.Given as goal

abbrev pub invariant-drawing : goal.invariant-drawing
invariant-drawing l = IsOnWay l.seed l.steps l.fn.from l.now

abbrev pub decreases-drawing : goal.decreases-drawing
decreases-drawing l = length (drop l.now.at l.steps)
