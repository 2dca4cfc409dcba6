use Rattle.search_run.specs.Kept.{IsAcceptedAt}
use Rattle.search_run.proofs.FollowLaws.{IsAlong}
use Rattle.search_run.proofs.verifying.verify.Given as goal

abbrev pub invariant-along : goal.invariant-along
invariant-along l = IsAlong IsAcceptedAt l.seed l.steps l.closed l.i l.now
