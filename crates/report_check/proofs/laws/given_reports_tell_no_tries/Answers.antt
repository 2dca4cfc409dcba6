use Rattle.report_check.proofs.NoTriesLaws.{no_tries, tries_refused}
use Rattle.report_check.proofs.laws.given_reports_tell_no_tries.Goals as goal

pub returns : goal.returns
returns c = record { accepted = no_tries; refused = tries_refused }
