use Rattle.std.specs.Prelude.{List}
use Rattle.std.proofs.Common.{drop}
use Rattle.closing_log.specs.Log.{PlainSection}
use Rattle.report_check.specs.Fitting.{HasFitting}
use Rattle.report_check.proofs.sections.left_over.Given as goal

abbrev pub invariant-fitting : goal.invariant-fitting
invariant-fitting l = (t : List PlainSection) → HasFitting (drop l.step-index l.steps) l.rest t → HasFitting l.steps l.sections t
