use Rattle.search_run.proofs.ChoiceLaws.{TakenFrom}
use Rattle.search_run.proofs.found.choose.Given as goal

abbrev pub invariant-loop-f : goal.invariant-loop-f
invariant-loop-f l = TakenFrom l.found l.f-index l.best
