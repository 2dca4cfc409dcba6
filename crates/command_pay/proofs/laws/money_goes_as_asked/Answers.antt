use Rattle.command_pay.proofs.SharedMoneyLaws.{money_of}
use Rattle.command_pay.proofs.PaymentLaws.{as_asked}
use Rattle.command_pay.proofs.laws.money_goes_as_asked.Goals as goal

pub returns : goal.returns
returns c = λ a files after f log wallet blocks taken. let k = as_asked a files after f log wallet blocks taken.payment in (k, money_of a files f log k, taken.fee)
