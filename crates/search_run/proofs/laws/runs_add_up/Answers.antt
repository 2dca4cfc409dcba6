use Rattle.search_run.proofs.RunLaws.{runs_add, stays_over}
use Rattle.search_run.proofs.laws.runs_add_up.Goals as goal

pub returns-clause-pieces : goal.returns-clause-pieces
returns-clause-pieces c = runs_add

pub returns-clause-over : goal.returns-clause-over
returns-clause-over c = stays_over
