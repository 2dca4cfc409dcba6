use Rattle.output_groups.proofs.TakenLaws.{kept_where_taken}
use Rattle.output_groups.proofs.laws.rows_take_groups.Goals as goal

pub returns : goal.returns
returns c = kept_where_taken
