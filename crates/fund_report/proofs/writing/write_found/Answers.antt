use Rattle.fund_report.proofs.WrittenLaws.{feeds_found}
use Rattle.fund_report.proofs.writing.write_found.Goals as goal

pub returns : goal.returns
returns g c = feeds_found _ _ _ _ _ _ _ _ c.report.view_is c.in_ok-write_mark.ensures c.in_ok-write_number.ensures c.in_ok-write_stage.ensures c.in_ok-write_number-2.ensures
