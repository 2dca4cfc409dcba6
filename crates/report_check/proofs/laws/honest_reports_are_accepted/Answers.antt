use Rattle.report_check.proofs.HonestLaws.{found_accepted, given_accepted, none_accepted}
use Rattle.report_check.proofs.laws.honest_reports_are_accepted.Goals as goal

pub returns : goal.returns
returns c = record { found = found_accepted; given = given_accepted; none = none_accepted }
