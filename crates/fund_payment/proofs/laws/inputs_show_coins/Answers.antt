use Rattle.fund_payment.proofs.ShownLaws.{shown_all}
use Rattle.fund_payment.proofs.laws.inputs_show_coins.Goals as goal

pub returns : goal.returns
returns c = shown_all
