use Rattle.kept_job.proofs.SameLaws.{goes_alike}
use Rattle.kept_job.proofs.laws.jobs_go_on.Goals as goal

pub returns : goal.returns
returns c = λ p n m digest job s o are k g. goes_alike p are n m digest job k s o g
