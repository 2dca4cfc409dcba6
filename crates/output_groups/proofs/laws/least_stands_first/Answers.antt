use Rattle.output_groups.proofs.LeastLaws.{least_first}
use Rattle.output_groups.proofs.UniqueLaws.{least_in}
use Rattle.output_groups.proofs.laws.least_stands_first.Goals as goal

pub returns-clause-held : goal.returns-clause-held
returns-clause-held c = least_in

pub returns-clause-first : goal.returns-clause-first
returns-clause-first c = least_first
