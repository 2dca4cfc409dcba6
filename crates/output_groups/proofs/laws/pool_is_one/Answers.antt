use Rattle.output_groups.proofs.SortLaws.{is_pool, only_pool}
use Rattle.output_groups.proofs.laws.pool_is_one.Goals as goal

pub returns-clause-pool : goal.returns-clause-pool
returns-clause-pool c = is_pool

pub returns-clause-only : goal.returns-clause-only
returns-clause-only c = only_pool
