use Rattle.closing_log.proofs.FirstFaults.{one_place}
use Rattle.fund_report.specs.ReportText.{IsReportText}
use Rattle.fund_report.proofs.laws.faults_have_one_place.Goals as goal

pub returns : goal.returns
returns c = one_place IsReportText
