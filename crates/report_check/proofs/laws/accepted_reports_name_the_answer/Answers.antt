use Rattle.report_check.proofs.VouchedLaws.{accepted_vouches}
use Rattle.report_check.proofs.laws.accepted_reports_name_the_answer.Goals as goal

pub returns : goal.returns
returns c = accepted_vouches
