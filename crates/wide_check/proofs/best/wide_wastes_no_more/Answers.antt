use Rattle.wide_check.proofs.UsualLaws.{admissible_wide, none_or_none, wastes_no_more}
use Rattle.wide_check.proofs.best.wide_wastes_no_more.Goals as goal

pub returns : goal.returns
returns c = record { more = admissible_wide; waste = wastes_no_more; none = none_or_none }
