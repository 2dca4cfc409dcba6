use Rattle.output_groups.proofs.ValueLaws.{useful_where, value_is_effective}
use Rattle.output_groups.proofs.laws.values_are_effective.Goals as goal

pub returns-clause-value : goal.returns-clause-value
returns-clause-value c = value_is_effective

pub returns-clause-useful : goal.returns-clause-useful
returns-clause-useful c = useful_where
