use Rattle.command_sweeping.proofs.PaymentLaws.{as_asked}
use Rattle.command_sweeping.proofs.laws.sweeps_are_as_asked.Goals as goal

pub returns : goal.returns
returns c = λ a files after r wallet blocks payment. as_asked a files after r wallet blocks payment
