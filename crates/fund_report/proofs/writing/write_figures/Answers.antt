use Rattle.fund_report.proofs.WrittenLaws.{feeds_figures}
use Rattle.fund_report.proofs.writing.write_figures.Goals as goal

pub returns : goal.returns
returns g c = feeds_figures _ _ _ _ _ _ _ _ c.report.view_is c.in_ok-write_number.ensures c.in_ok-write_number-2.ensures c.in_ok-write_number-3.ensures c.in_ok-write_waste.ensures
