use Rattle.command_sweeping.proofs.MoneyLaws.{money_of}
use Rattle.command_sweeping.proofs.PaymentLaws.{as_asked}
use Rattle.command_sweeping.proofs.laws.all_coins_go_as_asked.Goals as goal

pub returns : goal.returns
returns c = λ a files after r wallet blocks taken. let k = as_asked a files after r wallet blocks taken.payment in (k, money_of a files r k, taken.fee)
