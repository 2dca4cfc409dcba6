use Rattle.std.proofs.Common.{◌∙◌}
use Rattle.command_work.proofs.summary.write_summary.Goals as goal

pub returns : goal.returns
returns c = rw (c.deref.ensures.value ∙ c.in_ok-report.ensures.text) at c.summarize.ensures
