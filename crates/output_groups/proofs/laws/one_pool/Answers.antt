use Rattle.output_groups.proofs.CountLaws.{one_count}
use Rattle.output_groups.proofs.UniqueLaws.{pool_unique, ties_are_one}
use Rattle.output_groups.proofs.laws.one_pool.Goals as goal

pub returns-clause-pool : goal.returns-clause-pool
returns-clause-pool c = pool_unique

pub returns-clause-count : goal.returns-clause-count
returns-clause-count c = one_count

pub returns-clause-order : goal.returns-clause-order
returns-clause-order c group row rate long_term cs p g h are is held held_too tie = ties_are_one group row rate long_term cs p p are is is g h held held_too tie
