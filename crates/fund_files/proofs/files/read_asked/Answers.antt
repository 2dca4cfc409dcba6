use Rattle.fund_files.proofs.StopLaws.{asked_stops}
use Rattle.fund_files.proofs.files.read_asked.Goals as goal

pub returns-clause-stop : goal.returns-clause-stop
returns-clause-stop g c = asked_stops _ c.args.name.now (g.H.Shelf.view c.args.shelf.now) (g.H.Shelf.view c.request_from.new.shelf) c.request_from.result c.request_from.ensures.stop
