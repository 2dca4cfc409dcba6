use Rattle.fund_report.proofs.WrittenLaws.{feeds_paid}
use Rattle.fund_report.proofs.writing.write_paid.Goals as goal

pub returns : goal.returns
returns g c = feeds_paid _ _ _ _ _ _ _ c.report.view_is c.as_slice.ensures.value c.in_ok-write_change.ensures c.in_ok-write_word.ensures
