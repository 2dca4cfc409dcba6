use Rattle.command_settle.proofs.StopLaws.{text_stops}
use Rattle.command_settle.proofs.payment.psbt_in.Goals as goal

pub returns-in-Err-clause-stop : goal.returns-in-Err-clause-stop
returns-in-Err-clause-stop c = rw c.psbt_stop.ensures (text_stops c.args.text.now c.in-Err.fault c.in-Err.ensures.fault)
