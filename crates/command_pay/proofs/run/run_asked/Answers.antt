use Rattle.fund_top.specs.Words.{names_stand}
use Rattle.pay_words.specs.declared.asked.Asked.{Asked}
use Rattle.command_pay.specs.Run.{command_for, held_names, sources_of}
use Rattle.command_pay.proofs.RunLaws.{run_for, writes_by}
use Rattle.command_pay.proofs.run.run_asked.Goals as goal

pub returns-clause-run : goal.returns-clause-run
returns-clause-run g c =
    let asked : Asked = c.args.asked.now in
    run_for g.H.Shelf.tells asked c.in-Ok.due.request.items (g.H.Shelf.view c.args.files) (g.H.Shelf.view c.run_held.result.1) c.run_held.result.0 c.in-Ok.ensures.asks c.in-Ok.ensures.bytes
    (c.run_held.ensures.run (names_stand (sources_of asked) held_names) (command_for asked) c.in-Ok.ensures.words (writes_by g.H.Shelf.tells asked.way (sources_of asked)))

pub returns-clause-files : goal.returns-clause-files
returns-clause-files g c =
    let asked : Asked = c.args.asked.now in
    c.run_held.ensures.files (names_stand (sources_of asked) held_names) (command_for asked) c.in-Ok.ensures.words (writes_by g.H.Shelf.tells asked.way (sources_of asked))
