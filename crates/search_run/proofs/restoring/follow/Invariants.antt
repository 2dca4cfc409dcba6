use Rattle.search_run.specs.Kept.{IsDueAt}
use Rattle.search_run.proofs.FollowLaws.{IsAlong}
use Rattle.search_run.proofs.restoring.follow.Given as goal

abbrev pub invariant-along : goal.invariant-along
invariant-along l = IsAlong IsDueAt l.seed l.steps l.closed l.i l.now
