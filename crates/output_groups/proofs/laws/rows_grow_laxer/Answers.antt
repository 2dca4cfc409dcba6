use Rattle.output_groups.proofs.TakenLaws.{grow_laxer, kept_laxer}
use Rattle.output_groups.proofs.laws.rows_grow_laxer.Goals as goal

pub returns-clause-rows : goal.returns-clause-rows
returns-clause-rows c = grow_laxer

pub returns-clause-kept : goal.returns-clause-kept
returns-clause-kept c = kept_laxer
