use Rattle.command_pay.proofs.PaymentLaws.{as_asked}
use Rattle.command_pay.proofs.laws.payments_are_as_asked.Goals as goal

pub returns : goal.returns
returns c = λ a files after f log wallet blocks payment. as_asked a files after f log wallet blocks payment
