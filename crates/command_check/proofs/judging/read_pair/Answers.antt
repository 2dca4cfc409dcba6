use Rattle.std.proofs.Common.{◌∙◌}
use Rattle.std.proofs.lemmas.Result.{err_from_is_err_and}
use Rattle.fund_files.proofs.FrameLaws.{only_reads_on}
use Rattle.command_check.proofs.AskedLaws.{asked_still, report_alone, report_and_log}
use Rattle.command_check.proofs.StopLaws.{beside_stops, found_stops, pair_is}
use Rattle.command_check.specs.declared.stop.CheckedFile.TheVariants.{Report, Log}
use Rattle.command_check.proofs.judging.read_pair.Goals as goal

pub returns-in_err-found-clause-stop : goal.returns-in_err-found-clause-stop
returns-in_err-found-clause-stop g c =
    let p = err_from_is_err_and c.from_residual.result c.from_residual.ensures.1 in
    rw (p.1, p.2) (found_stops _ c.args.report.now c.args.log.now (g.H.Shelf.view c.args.shelf.now) (g.H.Shelf.view c.read_found.new.shelf) c.in_err-found.field-0.0 c.in_err-found.ensures.stop)

pub returns-in_err-found-clause-asked : goal.returns-in_err-found-clause-asked
returns-in_err-found-clause-asked g c = λ t. report_alone c.args.report.now c.args.log.now (g.H.Shelf.view c.args.shelf.now) (g.H.Shelf.view c.read_found.new.shelf) (c.read_found.ensures.asked t)

pub returns-in_err-log-clause-stop : goal.returns-in_err-log-clause-stop
returns-in_err-log-clause-stop g c =
    let p = err_from_is_err_and c.from_residual-in_err-log.result c.from_residual-in_err-log.ensures.1 in
    rw (p.1, p.2) (beside_stops _ c.args.report.now c.args.log.now (g.H.Shelf.view c.args.shelf.now) (g.H.Shelf.view c.read_found.new.shelf) (g.H.Shelf.view c.read_beside.new.shelf) c.in_ok-found.found c.in_err-log.field-0.0
    c.in_ok-found.ensures.report c.read_found.ensures.frame c.in_err-log.ensures.stop)

pub returns-in_err-log-clause-frame : goal.returns-in_err-log-clause-frame
returns-in_err-log-clause-frame g c = only_reads_on _ (g.H.Shelf.view c.args.shelf.now) (g.H.Shelf.view c.read_found.new.shelf) (g.H.Shelf.view c.read_beside.new.shelf) c.read_found.ensures.frame c.read_beside.ensures.frame

pub returns-in_err-log-clause-asked : goal.returns-in_err-log-clause-asked
returns-in_err-log-clause-asked g c = λ t.
    report_and_log c.args.report.now c.args.log.now (g.H.Shelf.view c.args.shelf.now) (g.H.Shelf.view c.read_found.new.shelf) (g.H.Shelf.view c.read_beside.new.shelf) (c.read_found.ensures.asked t) (c.read_beside.ensures.asked t)

pub returns-in_err-log-clause-no_log : goal.returns-in_err-log-clause-no_log
returns-in_err-log-clause-no_log g c = λ t none.
    asked_still c.args.report.now (g.H.Shelf.view c.args.shelf.now) (g.H.Shelf.view c.read_found.new.shelf) (g.H.Shelf.view c.read_beside.new.shelf) (c.read_found.ensures.asked t)
    (c.read_beside.ensures.unread (λ has. none (c.in_ok-found.found, c.in_ok-found.ensures.report t, has)))

pub returns-clause-read : goal.returns-clause-read
returns-clause-read g c = λ t.
    pair_is (g.H.Shelf.view c.args.shelf.now) (g.H.Shelf.view c.read_found.new.shelf) c.args.report.now c.args.log.now c.in_ok-found.found c.in_ok-log.log.items (c.read_found.ensures.frame.same t) (c.in_ok-found.ensures.report t)
    (λ has. c.in_ok-log.ensures.log t has) (λ has. c.in_ok-log.ensures.fits t has)

pub returns-clause-frame : goal.returns-clause-frame
returns-clause-frame g c = only_reads_on _ (g.H.Shelf.view c.args.shelf.now) (g.H.Shelf.view c.read_found.new.shelf) (g.H.Shelf.view c.read_beside.new.shelf) c.read_found.ensures.frame c.read_beside.ensures.frame

pub returns-clause-asked : goal.returns-clause-asked
returns-clause-asked g c = λ t.
    report_and_log c.args.report.now c.args.log.now (g.H.Shelf.view c.args.shelf.now) (g.H.Shelf.view c.read_found.new.shelf) (g.H.Shelf.view c.read_beside.new.shelf) (c.read_found.ensures.asked t) (c.read_beside.ensures.asked t)

pub returns-clause-no_log : goal.returns-clause-no_log
returns-clause-no_log g c = λ t none.
    asked_still c.args.report.now (g.H.Shelf.view c.args.shelf.now) (g.H.Shelf.view c.read_found.new.shelf) (g.H.Shelf.view c.read_beside.new.shelf) (c.read_found.ensures.asked t)
    (c.read_beside.ensures.unread (λ has. none (c.in_ok-found.found, c.in_ok-found.ensures.report t, has)))

-- ---- failed reads

pub returns-in_err-found-clause-all_read : goal.returns-in_err-found-clause-all_read
returns-in_err-found-clause-all_read g c =
    let p = err_from_is_err_and c.from_residual.result c.from_residual.ensures.1 in
    rw (p.1, p.2) (λ none. c.in_err-found.ensures.all_read (λ e. none Report cc))

pub returns-in_err-log-clause-all_read : goal.returns-in_err-log-clause-all_read
returns-in_err-log-clause-all_read g c =
    let p = err_from_is_err_and c.from_residual-in_err-log.result c.from_residual-in_err-log.ensures.1 in
    rw (p.1, p.2) (λ none. c.in_err-log.ensures.all_read (λ e. none Log cc) ∙ c.in_ok-found.ensures.all_read (λ e. cc))

pub returns-clause-all_read : goal.returns-clause-all_read
returns-clause-all_read g c = λ none. c.in_ok-log.ensures.all_read (λ e. cc) ∙ c.in_ok-found.ensures.all_read (λ e. cc)
