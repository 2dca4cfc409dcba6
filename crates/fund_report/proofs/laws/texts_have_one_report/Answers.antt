use Rattle.fund_report.proofs.ToldLaws.{can_of, one_report}
use Rattle.fund_report.proofs.WrittenLaws.{written_is_text}
use Rattle.fund_report.proofs.laws.texts_have_one_report.Goals as goal

pub returns : goal.returns
returns c = record { one = one_report; written = written_is_text; can = can_of }
