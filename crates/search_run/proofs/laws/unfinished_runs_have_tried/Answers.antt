use Rattle.search_run.proofs.RunLaws.{all_tries, most_tries}
use Rattle.search_run.proofs.laws.unfinished_runs_have_tried.Goals as goal

pub returns-clause-tries : goal.returns-clause-tries
returns-clause-tries c = λ seed s m x rest e. (all_tries seed s m x rest e).tries

pub returns-clause-going : goal.returns-clause-going
returns-clause-going c = λ seed s m x rest e. (all_tries seed s m x rest e).going

pub returns-clause-most : goal.returns-clause-most
returns-clause-most c = most_tries
