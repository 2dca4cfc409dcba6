use Rattle.command_settle.proofs.StopLaws.{if_content_settled, if_content_stops}
use Rattle.command_settle.specs.Names.{plain_names}
use Rattle.command_settle.proofs.judging.settled.Goals as goal

pub returns-clause-settled : goal.returns-clause-settled
returns-clause-settled g c =
    if_content_settled _ (plain_names c.args.names.now) (g.H.Shelf.view c.args.shelf.now) (g.H.Shelf.view c.read_files.new.shelf) c.in_ok-files.files.wallet c.in_ok-files.files.request c.in_ok-files.files.report.items c.in_ok-files.files.tx.items
    c.judge_files.result c.in_ok-files.ensures.files c.judge_files.ensures.settled

pub returns-clause-stop : goal.returns-clause-stop
returns-clause-stop g c =
    if_content_stops _ (plain_names c.args.names.now) (g.H.Shelf.view c.args.shelf.now) (g.H.Shelf.view c.read_files.new.shelf) c.in_ok-files.files.wallet c.in_ok-files.files.request c.in_ok-files.files.report.items c.in_ok-files.files.tx.items
    c.judge_files.result c.in_ok-files.ensures.files c.judge_files.ensures.stop
