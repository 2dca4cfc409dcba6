use Rattle.packed_jobs.proofs.PackedLaws.{one_job}
use Rattle.packed_jobs.proofs.laws.packed_jobs_are_told.Goals as goal

pub returns : goal.returns
returns c = one_job
