use Rattle.wide_report.proofs.WideLaws.{one_payment}
use Rattle.wide_report.proofs.laws.wide_texts_have_one_payment.Goals as goal

pub returns : goal.returns
returns c = one_payment
