use Rattle.held_run.specs.Held.{request_name}
use Rattle.pay_words.specs.declared.asked.Asked.{Asked}
use Rattle.command_pay.specs.Run.{sources_of}
use Rattle.command_sweeping.specs.Run.{command_for, stands_for}
use Rattle.command_sweeping.proofs.RunLaws.{run_for, writes_none}
use Rattle.command_sweeping.proofs.run.run_asked.Goals as goal

pub returns-clause-run : goal.returns-clause-run
returns-clause-run g c =
    let asked : Asked = c.args.asked.now in
    run_for g.H.Shelf.tells asked c.in-Ok.due.request.items (g.H.Shelf.view c.args.files) (g.H.Shelf.view c.run_held.result.1) c.run_held.result.0 c.in-Ok.ensures.asks c.in-Ok.ensures.bytes
    (c.run_held.ensures.run (stands_for asked) (command_for asked) c.in-Ok.ensures.words (writes_none g.H.Shelf.tells (sources_of asked) request_name))

pub returns-clause-files : goal.returns-clause-files
returns-clause-files g c =
    let asked : Asked = c.args.asked.now in
    c.run_held.ensures.files (stands_for asked) (command_for asked) c.in-Ok.ensures.words (writes_none g.H.Shelf.tells (sources_of asked) request_name)
