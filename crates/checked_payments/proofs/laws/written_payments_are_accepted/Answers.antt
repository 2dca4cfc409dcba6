use Rattle.checked_payments.proofs.CheckLaws.{accepted}
use Rattle.checked_payments.proofs.laws.written_payments_are_accepted.Goals as goal

pub returns : goal.returns
returns c = accepted
