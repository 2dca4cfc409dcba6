use Rattle.desk_laws.proofs.DeskLaws.{jobs_claimed}
use Rattle.desk_laws.proofs.laws.commits_keep_their_claims.Goals as goal

pub returns : goal.returns
returns c = jobs_claimed
