use Rattle.kept_job.proofs.SameLaws.{kept_goes, kept_not_refused}
use Rattle.kept_job.proofs.laws.kept_jobs_are_gone_on_with.Goals as goal

pub returns-clause-refused : goal.returns-clause-refused
returns-clause-refused c = λ p n m digest job fault are k h own. kept_not_refused p are n m digest job k fault h own

pub returns-clause-goes : goal.returns-clause-goes
returns-clause-goes c = λ p n m digest job are k few. kept_goes p are n m digest job k few
