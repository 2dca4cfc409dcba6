use Rattle.fund_files.proofs.StopLaws.{asked_stops}
use Rattle.fund_files.proofs.digests.read_asked_with_digest.Goals as goal

pub returns-clause-stop : goal.returns-clause-stop
returns-clause-stop g c = asked_stops _ c.args.name.now (g.H.Shelf.view c.args.shelf.now) (g.H.Shelf.view c.request_with_digest.new.shelf) c.request_with_digest.result c.request_with_digest.ensures.stop
