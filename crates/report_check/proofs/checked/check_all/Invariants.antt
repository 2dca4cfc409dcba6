use Rattle.std.proofs.Common.{drop}
use Rattle.report_check.proofs.CheckedLaws.{IsChecked}
use Rattle.report_check.proofs.checked.check_all.Given as goal

abbrev pub invariant-checking : goal.invariant-checking
invariant-checking l = IsChecked l.steps l.sections (drop l.step-index l.steps) l.rest
