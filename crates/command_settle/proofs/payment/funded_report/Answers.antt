use Rattle.command_settle.proofs.StopLaws.{form_stops}
use Rattle.command_settle.proofs.payment.funded_report.Goals as goal

pub returns-in-Err-clause-stop : goal.returns-in-Err-clause-stop
returns-in-Err-clause-stop c = rw c.report_stop.ensures (form_stops c.args.bytes.now c.in-Err.fault c.in-Err.ensures.fault)
