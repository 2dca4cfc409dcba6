use Rattle.search_run.proofs.ReplayLaws.{IsReplayedSome}
use Rattle.search_run.proofs.restoring.replay.Given as goal

abbrev pub invariant-along : goal.invariant-along
invariant-along l = IsReplayedSome l.seed l.steps l.closed l.fn.tries l.i l.at l.trail
