use Rattle.std.proofs.Common.{◌∙◌}
use Rattle.std.proofs.lemmas.Result.{err_from_is_err_and}
use Rattle.fund_files.proofs.FrameLaws.{only_reads_on}
use Rattle.command_settle.proofs.AskedLaws.{asks_report, asks_request, asks_tx, asks_wallet}
use Rattle.command_settle.proofs.FileStopLaws.{report_alone, request_alone, tx_alone, wallet_alone}
use Rattle.command_settle.proofs.StopLaws.{report_back, report_stops, request_back, request_stops, tx_back, tx_stops, wallet_stops}
use Rattle.command_settle.specs.Names.{plain_names}
use Rattle.command_settle.specs.declared.stop.SettleFile.TheVariants.{Wallet, Request, Report, Tx}
use Rattle.command_settle.proofs.files.read_files.Goals as goal

pub returns-in_err-wallet-clause-stop : goal.returns-in_err-wallet-clause-stop
returns-in_err-wallet-clause-stop g c =
    let p = err_from_is_err_and c.from_residual.result c.from_residual.ensures.1 in
    rw (p.1, p.2) (wallet_stops _ (plain_names c.args.names.now) (g.H.Shelf.view c.args.shelf.now) (g.H.Shelf.view c.read_wallet.new.shelf) c.in_err-wallet.field-0.0 c.in_err-wallet.ensures.stop)

pub returns-in_err-wallet-clause-form_unseen : goal.returns-in_err-wallet-clause-form_unseen
returns-in_err-wallet-clause-form_unseen g c = λ t.
    let p = err_from_is_err_and c.from_residual.result c.from_residual.ensures.1 in
    rw (p.1, p.2) (wallet_alone _ t c.args.names.now.wallet.now (g.H.Shelf.view c.args.shelf.now) (g.H.Shelf.view c.read_wallet.new.shelf) c.in_err-wallet.field-0.0 c.in_err-wallet.ensures.stop)

pub returns-in_err-wallet-clause-asks : goal.returns-in_err-wallet-clause-asks
returns-in_err-wallet-clause-asks g c = λ t. asks_wallet (plain_names c.args.names.now) (g.H.Shelf.view c.args.shelf.now) (g.H.Shelf.view c.read_wallet.new.shelf) (c.read_wallet.ensures.asked t)

pub returns-in_err-wallet-clause-all_read : goal.returns-in_err-wallet-clause-all_read
returns-in_err-wallet-clause-all_read g c =
    let p = err_from_is_err_and c.from_residual.result c.from_residual.ensures.1 in
    rw (p.1, p.2) (λ none. c.in_err-wallet.ensures.all_read (λ e. none Wallet cc))

pub returns-in_err-request-clause-stop : goal.returns-in_err-request-clause-stop
returns-in_err-request-clause-stop g c =
    let p = err_from_is_err_and c.from_residual-in_err-request.result c.from_residual-in_err-request.ensures.1 in
    rw (p.1, p.2) (request_stops _ (plain_names c.args.names.now) (g.H.Shelf.view c.args.shelf.now) c.in_ok-wallet.wallet c.in_ok-wallet.ensures.wallet (g.H.Shelf.view c.read_wallet.new.shelf) c.read_wallet.ensures.frame (g.H.Shelf.view c.read_request.new.shelf) c.in_err-request.field-0.0 c.in_err-request.ensures.stop)

pub returns-in_err-request-clause-form_unseen : goal.returns-in_err-request-clause-form_unseen
returns-in_err-request-clause-form_unseen g c = λ t.
    let p = err_from_is_err_and c.from_residual-in_err-request.result c.from_residual-in_err-request.ensures.1 in
    rw (p.1, p.2) (request_alone _ t c.args.names.now.request.now (g.H.Shelf.view c.read_wallet.new.shelf) (g.H.Shelf.view c.read_request.new.shelf) c.in_err-request.field-0.0 c.in_err-request.ensures.stop)

pub returns-in_err-request-clause-asks : goal.returns-in_err-request-clause-asks
returns-in_err-request-clause-asks g c = λ t. asks_request (plain_names c.args.names.now) (g.H.Shelf.view c.args.shelf.now) c.in_ok-wallet.wallet (c.in_ok-wallet.ensures.wallet t) (g.H.Shelf.view c.read_wallet.new.shelf) (c.read_wallet.ensures.asked t) (g.H.Shelf.view c.read_request.new.shelf) (c.read_request.ensures.asked t)

pub returns-in_err-request-clause-all_read : goal.returns-in_err-request-clause-all_read
returns-in_err-request-clause-all_read g c =
    let p = err_from_is_err_and c.from_residual-in_err-request.result c.from_residual-in_err-request.ensures.1 in
    rw (p.1, p.2) (λ none. c.in_err-request.ensures.all_read (λ e. none Request cc) ∙ c.in_ok-wallet.ensures.all_read (λ e. cc))

pub returns-in_err-request-clause-frame : goal.returns-in_err-request-clause-frame
returns-in_err-request-clause-frame g c = only_reads_on _ (g.H.Shelf.view c.args.shelf.now) (g.H.Shelf.view c.read_wallet.new.shelf) (g.H.Shelf.view c.read_request.new.shelf) c.read_wallet.ensures.frame c.read_request.ensures.frame

pub returns-in_err-report-clause-stop : goal.returns-in_err-report-clause-stop
returns-in_err-report-clause-stop g c =
    let p = err_from_is_err_and c.from_residual-in_err-report.result c.from_residual-in_err-report.ensures.1 in
    rw (p.1, p.2) (report_stops _ (plain_names c.args.names.now) (g.H.Shelf.view c.args.shelf.now) c.in_ok-wallet.wallet c.in_ok-wallet.ensures.wallet (g.H.Shelf.view c.read_request.new.shelf) (only_reads_on _ (g.H.Shelf.view c.args.shelf.now) (g.H.Shelf.view c.read_wallet.new.shelf) (g.H.Shelf.view c.read_request.new.shelf) c.read_wallet.ensures.frame c.read_request.ensures.frame) c.in_ok-request.request (request_back _ (plain_names c.args.names.now) (g.H.Shelf.view c.args.shelf.now) (g.H.Shelf.view c.read_wallet.new.shelf) c.read_wallet.ensures.frame c.in_ok-request.request c.in_ok-request.ensures.request) (g.H.Shelf.view c.read_report_file.new.shelf) c.in_err-report.field-0.0 c.in_err-report.ensures.stop)

pub returns-in_err-report-clause-form_unseen : goal.returns-in_err-report-clause-form_unseen
returns-in_err-report-clause-form_unseen g c = λ t.
    let p = err_from_is_err_and c.from_residual-in_err-report.result c.from_residual-in_err-report.ensures.1 in
    rw (p.1, p.2) (report_alone _ t c.args.names.now.report.now (g.H.Shelf.view c.read_request.new.shelf) (g.H.Shelf.view c.read_report_file.new.shelf) c.in_err-report.field-0.0 c.in_err-report.ensures.stop)

pub returns-in_err-report-clause-asks : goal.returns-in_err-report-clause-asks
returns-in_err-report-clause-asks g c = λ t. asks_report (plain_names c.args.names.now) (g.H.Shelf.view c.args.shelf.now) c.in_ok-wallet.wallet (c.in_ok-wallet.ensures.wallet t) (g.H.Shelf.view c.read_wallet.new.shelf) (c.read_wallet.ensures.asked t) c.in_ok-request.request (request_back _ (plain_names c.args.names.now) (g.H.Shelf.view c.args.shelf.now) (g.H.Shelf.view c.read_wallet.new.shelf) c.read_wallet.ensures.frame c.in_ok-request.request c.in_ok-request.ensures.request t) (g.H.Shelf.view c.read_request.new.shelf) (c.read_request.ensures.asked t) (g.H.Shelf.view c.read_report_file.new.shelf) (c.read_report_file.ensures.asked t)

pub returns-in_err-report-clause-all_read : goal.returns-in_err-report-clause-all_read
returns-in_err-report-clause-all_read g c =
    let p = err_from_is_err_and c.from_residual-in_err-report.result c.from_residual-in_err-report.ensures.1 in
    rw (p.1, p.2) (λ none. c.in_err-report.ensures.all_read (λ e. none Report cc) ∙ c.in_ok-request.ensures.all_read (λ e. cc) ∙ c.in_ok-wallet.ensures.all_read (λ e. cc))

pub returns-in_err-report-clause-frame : goal.returns-in_err-report-clause-frame
returns-in_err-report-clause-frame g c = only_reads_on _ (g.H.Shelf.view c.args.shelf.now) (g.H.Shelf.view c.read_request.new.shelf) (g.H.Shelf.view c.read_report_file.new.shelf) (only_reads_on _ (g.H.Shelf.view c.args.shelf.now) (g.H.Shelf.view c.read_wallet.new.shelf) (g.H.Shelf.view c.read_request.new.shelf) c.read_wallet.ensures.frame c.read_request.ensures.frame) c.read_report_file.ensures.frame

pub returns-in_err-tx-clause-stop : goal.returns-in_err-tx-clause-stop
returns-in_err-tx-clause-stop g c =
    let p = err_from_is_err_and c.from_residual-in_err-tx.result c.from_residual-in_err-tx.ensures.1 in
    rw (p.1, p.2) (tx_stops _ (plain_names c.args.names.now) (g.H.Shelf.view c.args.shelf.now) c.in_ok-wallet.wallet c.in_ok-wallet.ensures.wallet (g.H.Shelf.view c.read_report_file.new.shelf) (only_reads_on _ (g.H.Shelf.view c.args.shelf.now) (g.H.Shelf.view c.read_request.new.shelf) (g.H.Shelf.view c.read_report_file.new.shelf) (only_reads_on _ (g.H.Shelf.view c.args.shelf.now) (g.H.Shelf.view c.read_wallet.new.shelf) (g.H.Shelf.view c.read_request.new.shelf) c.read_wallet.ensures.frame c.read_request.ensures.frame) c.read_report_file.ensures.frame) c.in_ok-request.request (request_back _ (plain_names c.args.names.now) (g.H.Shelf.view c.args.shelf.now) (g.H.Shelf.view c.read_wallet.new.shelf) c.read_wallet.ensures.frame c.in_ok-request.request c.in_ok-request.ensures.request) (λ t. (report_back _ (plain_names c.args.names.now) (g.H.Shelf.view c.args.shelf.now) (g.H.Shelf.view c.read_request.new.shelf) (only_reads_on _ (g.H.Shelf.view c.args.shelf.now) (g.H.Shelf.view c.read_wallet.new.shelf) (g.H.Shelf.view c.read_request.new.shelf) c.read_wallet.ensures.frame c.read_request.ensures.frame) c.in_ok-report.report.items c.in_ok-report.ensures.bytes t).fits) (g.H.Shelf.view c.read_tx_file.new.shelf) c.in_err-tx.field-0.0 c.in_err-tx.ensures.stop)

pub returns-in_err-tx-clause-form_unseen : goal.returns-in_err-tx-clause-form_unseen
returns-in_err-tx-clause-form_unseen g c = λ t.
    let p = err_from_is_err_and c.from_residual-in_err-tx.result c.from_residual-in_err-tx.ensures.1 in
    rw (p.1, p.2) (tx_alone _ t c.args.names.now.tx.now (g.H.Shelf.view c.read_report_file.new.shelf) (g.H.Shelf.view c.read_tx_file.new.shelf) c.in_err-tx.field-0.0 c.in_err-tx.ensures.stop)

pub returns-in_err-tx-clause-asks : goal.returns-in_err-tx-clause-asks
returns-in_err-tx-clause-asks g c = λ t. asks_tx (plain_names c.args.names.now) (g.H.Shelf.view c.args.shelf.now) c.in_ok-wallet.wallet (c.in_ok-wallet.ensures.wallet t) (g.H.Shelf.view c.read_wallet.new.shelf) (c.read_wallet.ensures.asked t) c.in_ok-request.request (request_back _ (plain_names c.args.names.now) (g.H.Shelf.view c.args.shelf.now) (g.H.Shelf.view c.read_wallet.new.shelf) c.read_wallet.ensures.frame c.in_ok-request.request c.in_ok-request.ensures.request t) (g.H.Shelf.view c.read_request.new.shelf) (c.read_request.ensures.asked t) (g.H.Shelf.view c.read_report_file.new.shelf) (g.H.Shelf.view c.read_tx_file.new.shelf) (report_back _ (plain_names c.args.names.now) (g.H.Shelf.view c.args.shelf.now) (g.H.Shelf.view c.read_request.new.shelf) (only_reads_on _ (g.H.Shelf.view c.args.shelf.now) (g.H.Shelf.view c.read_wallet.new.shelf) (g.H.Shelf.view c.read_request.new.shelf) c.read_wallet.ensures.frame c.read_request.ensures.frame) c.in_ok-report.report.items c.in_ok-report.ensures.bytes t).fits (c.read_report_file.ensures.asked t) (c.read_tx_file.ensures.asked t)

pub returns-in_err-tx-clause-all_read : goal.returns-in_err-tx-clause-all_read
returns-in_err-tx-clause-all_read g c =
    let p = err_from_is_err_and c.from_residual-in_err-tx.result c.from_residual-in_err-tx.ensures.1 in
    rw (p.1, p.2) (λ none. c.in_err-tx.ensures.all_read (λ e. none Tx cc) ∙ c.in_ok-report.ensures.all_read (λ e. cc) ∙ c.in_ok-request.ensures.all_read (λ e. cc) ∙ c.in_ok-wallet.ensures.all_read (λ e. cc))

pub returns-in_err-tx-clause-frame : goal.returns-in_err-tx-clause-frame
returns-in_err-tx-clause-frame g c = only_reads_on _ (g.H.Shelf.view c.args.shelf.now) (g.H.Shelf.view c.read_report_file.new.shelf) (g.H.Shelf.view c.read_tx_file.new.shelf) (only_reads_on _ (g.H.Shelf.view c.args.shelf.now) (g.H.Shelf.view c.read_request.new.shelf) (g.H.Shelf.view c.read_report_file.new.shelf) (only_reads_on _ (g.H.Shelf.view c.args.shelf.now) (g.H.Shelf.view c.read_wallet.new.shelf) (g.H.Shelf.view c.read_request.new.shelf) c.read_wallet.ensures.frame c.read_request.ensures.frame) c.read_report_file.ensures.frame) c.read_tx_file.ensures.frame

pub returns-clause-files : goal.returns-clause-files
returns-clause-files g c = λ t. record {
  wallet = c.in_ok-wallet.ensures.wallet t;
  request = request_back _ (plain_names c.args.names.now) (g.H.Shelf.view c.args.shelf.now) (g.H.Shelf.view c.read_wallet.new.shelf) c.read_wallet.ensures.frame c.in_ok-request.request c.in_ok-request.ensures.request t;
  report = report_back _ (plain_names c.args.names.now) (g.H.Shelf.view c.args.shelf.now) (g.H.Shelf.view c.read_request.new.shelf) (only_reads_on _ (g.H.Shelf.view c.args.shelf.now) (g.H.Shelf.view c.read_wallet.new.shelf) (g.H.Shelf.view c.read_request.new.shelf) c.read_wallet.ensures.frame c.read_request.ensures.frame) c.in_ok-report.report.items c.in_ok-report.ensures.bytes t;
  tx = tx_back _ (plain_names c.args.names.now) (g.H.Shelf.view c.args.shelf.now) (g.H.Shelf.view c.read_report_file.new.shelf) (only_reads_on _ (g.H.Shelf.view c.args.shelf.now) (g.H.Shelf.view c.read_request.new.shelf) (g.H.Shelf.view c.read_report_file.new.shelf) (only_reads_on _ (g.H.Shelf.view c.args.shelf.now) (g.H.Shelf.view c.read_wallet.new.shelf) (g.H.Shelf.view c.read_request.new.shelf) c.read_wallet.ensures.frame c.read_request.ensures.frame) c.read_report_file.ensures.frame) c.in_ok-tx.tx.items c.in_ok-tx.ensures.bytes t;
}

pub returns-clause-frame : goal.returns-clause-frame
returns-clause-frame g c = only_reads_on _ (g.H.Shelf.view c.args.shelf.now) (g.H.Shelf.view c.read_report_file.new.shelf) (g.H.Shelf.view c.read_tx_file.new.shelf) (only_reads_on _ (g.H.Shelf.view c.args.shelf.now) (g.H.Shelf.view c.read_request.new.shelf) (g.H.Shelf.view c.read_report_file.new.shelf) (only_reads_on _ (g.H.Shelf.view c.args.shelf.now) (g.H.Shelf.view c.read_wallet.new.shelf) (g.H.Shelf.view c.read_request.new.shelf) c.read_wallet.ensures.frame c.read_request.ensures.frame) c.read_report_file.ensures.frame) c.read_tx_file.ensures.frame

pub returns-clause-asks : goal.returns-clause-asks
returns-clause-asks g c = λ t. asks_tx (plain_names c.args.names.now) (g.H.Shelf.view c.args.shelf.now) c.in_ok-wallet.wallet (c.in_ok-wallet.ensures.wallet t) (g.H.Shelf.view c.read_wallet.new.shelf) (c.read_wallet.ensures.asked t) c.in_ok-request.request (request_back _ (plain_names c.args.names.now) (g.H.Shelf.view c.args.shelf.now) (g.H.Shelf.view c.read_wallet.new.shelf) c.read_wallet.ensures.frame c.in_ok-request.request c.in_ok-request.ensures.request t) (g.H.Shelf.view c.read_request.new.shelf) (c.read_request.ensures.asked t) (g.H.Shelf.view c.read_report_file.new.shelf) (g.H.Shelf.view c.read_tx_file.new.shelf) (report_back _ (plain_names c.args.names.now) (g.H.Shelf.view c.args.shelf.now) (g.H.Shelf.view c.read_request.new.shelf) (only_reads_on _ (g.H.Shelf.view c.args.shelf.now) (g.H.Shelf.view c.read_wallet.new.shelf) (g.H.Shelf.view c.read_request.new.shelf) c.read_wallet.ensures.frame c.read_request.ensures.frame) c.in_ok-report.report.items c.in_ok-report.ensures.bytes t).fits (c.read_report_file.ensures.asked t) (c.read_tx_file.ensures.asked t)

pub returns-clause-all_read : goal.returns-clause-all_read
returns-clause-all_read g c = λ none. c.in_ok-tx.ensures.all_read (λ e. cc) ∙ c.in_ok-report.ensures.all_read (λ e. cc) ∙ c.in_ok-request.ensures.all_read (λ e. cc) ∙ c.in_ok-wallet.ensures.all_read (λ e. cc)
