use Rattle.report_check.proofs.BackedLaws.{right_first}
use Rattle.report_check.proofs.log_rules.are_backing.Goals as goal

pub check_all-requires-clause-fit : goal.check_all-requires-clause-fit
check_all-requires-clause-fit c = right_first c.args.steps.now c.args.report.now c.args.sections.now c.requires.log c.in_ok-are_due.ensures.right
