use Rattle.output_groups.proofs.HundredLaws.{one_in_hundreds, scripts_in_hundreds}
use Rattle.output_groups.proofs.laws.scripts_stand_in_hundreds.Goals as goal

pub returns-clause-groups : goal.returns-clause-groups
returns-clause-groups c = scripts_in_hundreds

pub returns-clause-only : goal.returns-clause-only
returns-clause-only c = one_in_hundreds
