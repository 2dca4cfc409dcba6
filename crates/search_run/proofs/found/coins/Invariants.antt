use Rattle.search_run.proofs.CoinLaws.{CoinsSoFar}
use Rattle.search_run.proofs.found.coins.Given as goal

abbrev pub invariant-loop-place : goal.invariant-loop-place
invariant-loop-place l = CoinsSoFar l.step l.places l.place-index l.sum
