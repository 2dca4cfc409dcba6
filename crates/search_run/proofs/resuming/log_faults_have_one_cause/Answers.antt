use Rattle.search_run.proofs.ExactLaws.{accepted_not_refused, one_log_fault}
use Rattle.search_run.proofs.resuming.log_faults_have_one_cause.Goals as goal

pub returns-clause-none : goal.returns-clause-none
returns-clause-none c = accepted_not_refused

pub returns-clause-one : goal.returns-clause-one
returns-clause-one c = one_log_fault
