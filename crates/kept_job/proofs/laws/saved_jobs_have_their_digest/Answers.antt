use Rattle.kept_job.proofs.SavingLaws.{has_its_digest}
use Rattle.kept_job.proofs.laws.saved_jobs_have_their_digest.Goals as goal

pub returns : goal.returns
returns c = λ digest s parts bytes old new saved h there has. has_its_digest digest s parts bytes old new saved h there has
