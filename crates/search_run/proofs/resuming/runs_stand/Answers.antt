use Rattle.search_run.proofs.MadeLaws.{kept_begins, kept_stands_on}
use Rattle.search_run.proofs.ResultLaws.{kept_stands}
use Rattle.search_run.proofs.resuming.runs_stand.Goals as goal

pub returns-clause-beginning : goal.returns-clause-beginning
returns-clause-beginning c = kept_begins

pub returns-clause-kept : goal.returns-clause-kept
returns-clause-kept c = λ seed steps saved log are can. kept_stands seed steps are saved log can

pub returns-clause-tries : goal.returns-clause-tries
returns-clause-tries c = λ seed steps s m are h. kept_stands_on seed steps are s m h
