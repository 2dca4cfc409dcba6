use Rattle.report_check.proofs.ToldLaws.{whole_named_in}
use Rattle.report_check.proofs.answered.whole_answered.Goals as goal

pub returns : goal.returns
returns c = whole_named_in c.args.funding.now c.args.report.now c.args.steps.now c.args.sections.now c.in_ok-is.is' c.requires.steps c.requires.backed c.in_ok-is.ensures
