use Rattle.command_complete.proofs.PaymentLaws.{payment_whole}
use Rattle.command_complete.proofs.whole_laws.payments_are_made_whole.Goals as goal

pub returns : goal.returns
returns c = payment_whole
