use Rattle.desk_laws.proofs.OpenLaws.{opened_free}
use Rattle.desk_laws.proofs.laws.opened_jobs_have_free_coins.Goals as goal

pub returns : goal.returns
returns c = opened_free
