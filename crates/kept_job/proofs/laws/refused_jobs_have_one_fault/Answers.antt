use Rattle.kept_job.proofs.FaultLaws.{gone_not_refused, one_gone, one_job_fault}
use Rattle.kept_job.proofs.laws.refused_jobs_have_one_fault.Goals as goal

pub returns-clause-one : goal.returns-clause-one
returns-clause-one c = λ p now job m e f own own_too h g. one_job_fault p now job m e f own own_too h g

pub returns-clause-none : goal.returns-clause-none
returns-clause-none c = λ p now job m s o e own g h. gone_not_refused p now job m s o e own g h

pub returns-clause-alike : goal.returns-clause-alike
returns-clause-alike c = λ p now job m s t a b g h. one_gone p now job m s t a b g h
