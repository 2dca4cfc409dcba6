use Rattle.search_run.proofs.MadeLaws.{kept_stands_on}
use Rattle.search_run.proofs.ResultLaws.{resumed_end, resumed_log, resumed_saved}
use Rattle.search_run.proofs.resuming.kept_runs_go_on.Goals as goal

pub returns-clause-end : goal.returns-clause-end
returns-clause-end c = λ seed steps s n m saved take are h e. resumed_end seed steps are s h n (kept_stands_on seed steps are s n h) saved e m take

pub returns-clause-log : goal.returns-clause-log
returns-clause-log c = λ seed steps s n m saved partial are h e. resumed_log seed steps are s h n (kept_stands_on seed steps are s n h) saved e m partial

pub returns-clause-saved : goal.returns-clause-saved
returns-clause-saved c = λ seed steps s n m saved are h e. resumed_saved seed steps are s h n (kept_stands_on seed steps are s n h) saved e m
