use Rattle.search_run.proofs.ResultLaws.{ends_of}
use Rattle.search_run.proofs.laws.results_are_admissible.Goals as goal

pub returns : goal.returns
returns c = λ seed steps take s are h. ends_of seed steps are take s h
