-- What a payment whose recipients bear the fee comes to, and what it means.
use Rattle.std.specs.Prelude.{ℕ, ◌≡◌, ◌≤◌, ◌⊎◌, ◌+◌, List, length, Ok}
use Rattle.block_feed.specs.Block.{ChainBlock}
use Rattle.closing_log.specs.LogText.{IsLogText}
use Rattle.fee_rates.specs.Fee.{fee_of, vsize_of}
use Rattle.fee_sharing.specs.Shares.{AreLeft}
use Rattle.fund_plan.specs.Pays.{outputs_of}
use Rattle.fund_report.specs.ReportText.{IsReportText}
use Rattle.fund_report.specs.declared.report.Report.TheVariants as kinds
use Rattle.fund_steps.specs.Amounts.{AreWithin, value_of}
use Rattle.closing_log.specs.declared.log.Stage.TheVariants as stage
use Rattle.psbt_codec.specs.Psbt.{IsPsbt}
use Rattle.request_text.specs.PlainRequest.{IsRequest, PlainRequest}
use Rattle.wallet_text.specs.PlainWallet.{PlainWallet}
use Rattle.fund_files.specs.Chain.{chain_from, history_of}
use Rattle.fund_files.specs.declared.chain.Chain.{Chain}
use Rattle.fund_payment.specs.Shown.{ShowsCoins}
use Rattle.command_end.specs.Names.{Sources}
use Rattle.command_inputs.specs.Names.{Payment}
use Rattle.command_inputs.specs.Outcome.{none_report}
use Rattle.command_amounts.specs.Amounts.{amounts_of}
use Rattle.command_amounts.specs.Coins.{coins_for}
use Rattle.command_amounts.specs.Signing.{psbt_from}
use Rattle.command_share.specs.Inputs.{AreInputs, IsFoundIn}
use Rattle.command_share.specs.Outcome.{NoSelection, Shared, Unfinished, ended_log, log_text, open_report, outcome_of, share_report}
use Rattle.command_share.specs.Paying.{PlainPaying, amounts_left, dusts_of, shared_request}
use Rattle.command_share.specs.Rows.{FoundNone, IsOpenInFirst, IsOpenInSecond, PlainRun, searched}
use Rattle.command_share.specs.declared.rows.RowsEnd.TheVariants as ends

-- the searches of a request on a chain come to this
abbrev pub ComeTo : Chain → PlainRequest → PlainRun → Type 0
ComeTo k r run = searched r k.wallet.change (coins_for k r) ≡ Ok run

-- A payment to which the searches come. Its coins have the least weight of all selections of the first of rows 1 and 2 that has
-- one, and of these the least value; the sections prove it. The tries are no more than the request's. What the recipients bear
-- is shared exactly, and each keeps its dust threshold. With what each is left with the request keeps its rules. What the coins
-- are worth beyond the outputs is at least the fee of the declared weight at the request's rate.
pub record IsPaid (k : Chain) (r : PlainRequest) (run : PlainRun) (f : PlainPaying) : Type 0 where
  pub comes_to : ComeTo k r run
  pub end_is : run.end ≡ ends.Found f
  pub tries : run.tries ≤ r.tries
  pub found : IsFoundIn k r run.sections f
  pub shares : AreLeft f.borne (amounts_of r) (dusts_of r) (amounts_left r f.borne)
  pub rules : IsRequest (shared_request r f.borne)
  pub fee : outputs_of (shared_request r f.borne) f.change + fee_of r.rate (vsize_of f.weight) ≤ value_of f.coins

-- A wallet, blocks and a request with such a payment, whose coins are within their bounds and whose recipients are counted in 64
-- bits. What a signer gets is a PSBT in the request's version (BIP 174, BIP 370), of which each input shows the value and the
-- script of its coin. The report and the log tell of it; the log's bytes are a text of the ended log of the searches. Where the
-- files are told, they hold this wallet, these blocks and this request.
pub record IsShared (told_files : Type 0) (files : List ℕ → List ℕ) (s : Sources) (p : Payment) (report log : List ℕ) : Type 0 where
  pub wallet : PlainWallet
  pub blocks : List ChainBlock
  pub asked : PlainRequest
  pub run : PlainRun
  pub paying : PlainPaying
  pub inputs : told_files → AreInputs files s p wallet blocks asked
  pub pays : IsPaid (chain_from wallet blocks) asked run paying
  pub psbt : IsPsbt (psbt_from (history_of wallet blocks) (shared_request asked paying.borne) wallet.change paying.coins paying.change)
  pub shows : ShowsCoins paying.coins (psbt_from (history_of wallet blocks) (shared_request asked paying.borne) wallet.change paying.coins paying.change)
  pub fit : AreWithin paying.coins
  pub few : length (amounts_left asked paying.borne) ≤ 18_446_744_073_709_551_616
  pub reports : report ≡ share_report (chain_from wallet blocks) asked run.tries paying
  pub logs : log ≡ log_text run.sections
  pub reads : IsLogText log (ended_log run.sections)
  pub comes_to : told_files → outcome_of files s p ≡ Shared report log

-- neither row has a selection, to which the searches come
pub record IsNone (k : Chain) (r : PlainRequest) (run : PlainRun) : Type 0 where
  pub comes_to : ComeTo k r run
  pub end_is : run.end ≡ ends.Nothing
  pub none : FoundNone r k.wallet.change (coins_for k r) run.sections

-- A wallet, blocks and a request for which neither row has a selection, which the log proves. The log's bytes are a text of the
-- ended log of the searches. Where the files are told, they hold this wallet, these blocks and this request.
pub record IsNotShared (told_files : Type 0) (files : List ℕ → List ℕ) (s : Sources) (p : Payment) (report log : List ℕ) : Type 0 where
  pub wallet : PlainWallet
  pub blocks : List ChainBlock
  pub asked : PlainRequest
  pub run : PlainRun
  pub inputs : told_files → AreInputs files s p wallet blocks asked
  pub none : IsNone (chain_from wallet blocks) asked run
  pub reports : report ≡ none_report run.tries
  pub told : IsReportText report (kinds.NoSelection run.tries)
  pub logs : log ≡ log_text run.sections
  pub reads : IsLogText log (ended_log run.sections)
  pub comes_to : told_files → outcome_of files s p ≡ NoSelection report log

-- all tries are made, and the walk of this row isn't done, to which the searches come
pub record IsOpen (k : Chain) (r : PlainRequest) (run : PlainRun) (number : ℕ) : Type 0 where
  pub comes_to : ComeTo k r run
  pub end_is : run.end ≡ ends.Open number
  pub left : IsOpenInFirst r k.wallet.change (coins_for k r) number ⊎ IsOpenInSecond r k.wallet.change (coins_for k r) number
  pub tries : run.tries ≡ r.tries

-- A wallet, blocks and a request whose tries are used up in the row of this number. Where the files are told, they hold this
-- wallet, these blocks and this request.
pub record IsUnfinished (told_files : Type 0) (files : List ℕ → List ℕ) (s : Sources) (p : Payment) (report : List ℕ) : Type 0 where
  pub wallet : PlainWallet
  pub blocks : List ChainBlock
  pub asked : PlainRequest
  pub run : PlainRun
  pub number : ℕ
  pub inputs : told_files → AreInputs files s p wallet blocks asked
  pub left : IsOpen (chain_from wallet blocks) asked run number
  pub reports : report ≡ open_report run.tries number
  pub told : IsReportText report (kinds.Unfinished run.tries number stage.LeanSmall)
  pub comes_to : told_files → outcome_of files s p ≡ Unfinished report
