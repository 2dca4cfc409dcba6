use Rattle.fund_plan.proofs.RefusedLaws.{kept_no_cause, one_check_cause, one_kept_cause}
use Rattle.fund_plan.proofs.keeping.kept_faults_have_one_cause.Goals as goal

pub returns-clause-none : goal.returns-clause-none
returns-clause-none c = kept_no_cause

pub returns-clause-one : goal.returns-clause-one
returns-clause-one c = one_kept_cause

pub returns-clause-verified : goal.returns-clause-verified
returns-clause-verified c = one_check_cause
