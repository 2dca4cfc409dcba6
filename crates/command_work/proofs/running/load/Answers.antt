use Rattle.command_work.proofs.RunLaws.{load_stops}
use Rattle.command_work.proofs.running.load.Goals as goal

pub returns-in-Err-clause-stop : goal.returns-in-Err-clause-stop
returns-in-Err-clause-stop c = load_stops c.args.number c.args.count c.in-Err.fault c.load_stop.result c.in-Err.ensures.fault c.load_stop.ensures.refused
