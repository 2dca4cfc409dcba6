use Rattle.std.proofs.Common.{refl}
use Rattle.std.proofs.lemmas.Result.{err_from_is_err_and}
use Rattle.command_settle.specs.Names.{plain_names}
use Rattle.settle_table.proofs.FileLaws.{file_stops, file_untold}
use Rattle.settle_table.proofs.OnlyLaws.{settlement_only}
use Rattle.settle_table.proofs.StopLaws.{if_inside_stops, if_settlement}
use Rattle.settle_table.proofs.settling.settlement_of.Goals as goal

pub returns-in_err-files-clause-stop : goal.returns-in_err-files-clause-stop
returns-in_err-files-clause-stop g c =
    let p = err_from_is_err_and c.from_residual.result c.from_residual.ensures.1 in
    rw (p.1, p.2) (file_stops _ (plain_names c.args.names.now) (g.H.Shelf.view c.args.shelf.now) (g.H.Shelf.view c.read_files.new.shelf) c.in_err-files.field-0.0 c.in_err-files.ensures.stop c.in_err-files.ensures.form_unseen)

pub returns-in_err-files-clause-only : goal.returns-in_err-files-clause-only
returns-in_err-files-clause-only g c = λ t s inputs x.
    let p = err_from_is_err_and c.from_residual.result c.from_residual.ensures.1 in
    rw (p.1, p.2)
    (file_untold (g.H.Shelf.view c.args.shelf.now).files (plain_names c.args.names.now) x.wallet x.request x.held _ (g.H.Shelf.view c.args.shelf.now) (g.H.Shelf.view c.read_files.new.shelf) refl t c.in_err-files.field-0.0 c.in_err-files.ensures.stop c.in_err-files.ensures.form_unseen)

pub returns-in_err-files-clause-all_read : goal.returns-in_err-files-clause-all_read
returns-in_err-files-clause-all_read g c =
    let p = err_from_is_err_and c.from_residual.result c.from_residual.ensures.1 in
    rw (p.1, p.2) (λ none. c.in_err-files.ensures.all_read (λ file e. none file cc))

pub returns-clause-settled : goal.returns-clause-settled
returns-clause-settled g c =
    if_settlement _ (plain_names c.args.names.now) (g.H.Shelf.view c.args.shelf.now) (g.H.Shelf.view c.read_files.new.shelf) c.in_ok-files.files.wallet c.in_ok-files.files.request c.in_ok-files.files.report.items c.in_ok-files.files.tx.items c.in_ok-files.ensures.files c.judge_files.result
    c.judge_files.ensures.settled

pub returns-clause-stop : goal.returns-clause-stop
returns-clause-stop g c =
    if_inside_stops _ (plain_names c.args.names.now) (g.H.Shelf.view c.args.shelf.now) (g.H.Shelf.view c.read_files.new.shelf) c.in_ok-files.files.wallet c.in_ok-files.files.request c.in_ok-files.files.report.items c.in_ok-files.files.tx.items c.in_ok-files.ensures.files c.judge_files.result
    c.judge_files.ensures.stop

pub returns-clause-only : goal.returns-clause-only
returns-clause-only g c =
    settlement_only _ (plain_names c.args.names.now) (g.H.Shelf.view c.args.shelf.now) c.in_ok-files.files.wallet c.in_ok-files.files.request c.in_ok-files.files.report.items c.in_ok-files.files.tx.items c.in_ok-files.ensures.files c.judge_files.result
    c.judge_files.ensures.only

pub returns-clause-all_read : goal.returns-clause-all_read
returns-clause-all_read g c = λ none. c.in_ok-files.ensures.all_read (λ file e. cc)
