use Rattle.checked_runs.proofs.ResumeLaws.{funded_checked, none_checked, open_checked}
use Rattle.checked_runs.proofs.resumes.resumed_reports_are_accepted.Goals as goal

pub returns : goal.returns
returns c = record { funded = funded_checked; none = none_checked; unfinished = open_checked }
