use Rattle.search_run.proofs.MadeLaws.{kept_stands_on}
use Rattle.search_run.proofs.ResultLaws.{resumed_can}
use Rattle.search_run.proofs.resuming.kept_runs_are_accepted.Goals as goal

pub returns : goal.returns
returns c = λ seed steps s n saved are h e. resumed_can seed steps are s h n (kept_stands_on seed steps are s n h) saved e
