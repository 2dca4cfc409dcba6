use Rattle.amount_reports.proofs.SharedLaws.{one_shared}
use Rattle.amount_reports.proofs.SweptLaws.{one_swept}
use Rattle.amount_reports.proofs.laws.texts_have_one_report.Goals as goal

pub returns : goal.returns
returns c = record { swept = one_swept; shared = one_shared }
