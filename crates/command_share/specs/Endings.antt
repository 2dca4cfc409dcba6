-- How a payment ends whose recipients bear the fee and whose files are read.
use Rattle.std.specs.Prelude.{ℕ, ◌≡◌, ◌<◌, ◌≤◌, ◌+◌, List, length, All}
use Rattle.closing_log.specs.LogText.{IsLogText}
use Rattle.closing_log.specs.declared.log.Stage.TheVariants as stage
use Rattle.fee_rates.specs.Fee.{fee_of, vsize_of}
use Rattle.fee_sharing.specs.RowShares.{amount_of}
use Rattle.fund_report.specs.ReportText.{IsReportText}
use Rattle.fund_report.specs.declared.report.Report.TheVariants as kinds
use Rattle.fund_steps.specs.Amounts.{AreWithin, value_of}
use Rattle.payment_states.specs.Makers.{HasMaker}
use Rattle.psbt_codec.specs.Psbt.{IsPsbt}
use Rattle.request_text.specs.PlainRequest.{PlainRequest, paid_to}
use Rattle.fund_files.specs.declared.chain.Chain.{Chain}
use Rattle.fund_payment.specs.Shown.{ShowsCoins}
use Rattle.command_end.specs.Names.{Sources}
use Rattle.command_inputs.specs.Names.{Payment}
use Rattle.command_inputs.specs.Outcome.{none_report}
use Rattle.command_amounts.specs.Coins.{coins_for}
use Rattle.command_amounts.specs.Signing.{psbt_from}
use Rattle.command_share.specs.Outcome.{NoSelection, Shared, Unfinished, ended_log, log_text, open_report, share_report, shared}
use Rattle.command_share.specs.Paying.{PlainPaying, amounts_left, shared_request}
use Rattle.command_share.specs.Results.{ComeTo, IsNone, IsNotShared, IsOpen, IsPaid, IsShared, IsUnfinished}
use Rattle.command_share.specs.Rows.{AreSearches, PlainRun}
use Rattle.command_share.specs.declared.rows.RowsEnd.{RowsEnd}
use Rattle.command_share.specs.declared.rows.RowsEnd.TheVariants as ends
use Rattle.command_share.specs.declared.ending.Ending.{Ending}
use Rattle.command_share.specs.declared.ending.Ending.TheVariants as endings

-- the report of a payment
pub record IsPaidText (k : Chain) (r : PlainRequest) (tries : ℕ) (f : PlainPaying) (report : List ℕ) : Type 0 where
  pub psbt : IsPsbt (psbt_from k.book (shared_request r f.borne) k.wallet.change f.coins f.change)
  pub shows : ShowsCoins f.coins (psbt_from k.book (shared_request r f.borne) k.wallet.change f.coins f.change)
  pub fit : AreWithin f.coins
  pub few : length (amounts_left r f.borne) ≤ 18_446_744_073_709_551_616
  pub reports : report ≡ share_report k r tries f

-- a payment, its report and its log
pub record IsPaidEnd (k : Chain) (r : PlainRequest) (report log : List ℕ) : Type 0 where
  pub run : PlainRun
  pub paying : PlainPaying
  pub pays : IsPaid k r run paying
  pub text : IsPaidText k r run.tries paying report
  pub logs : log ≡ log_text run.sections
  pub reads : IsLogText log (ended_log run.sections)
  pub due : shared k r ≡ Shared report log

-- no selection, its report and its log
pub record IsNoneEnd (k : Chain) (r : PlainRequest) (report log : List ℕ) : Type 0 where
  pub run : PlainRun
  pub none : IsNone k r run
  pub reports : report ≡ none_report run.tries
  pub told : IsReportText report (kinds.NoSelection run.tries)
  pub logs : log ≡ log_text run.sections
  pub reads : IsLogText log (ended_log run.sections)
  pub due : shared k r ≡ NoSelection report log

-- tries that are used up, and the report
pub record IsOpenEnd (k : Chain) (r : PlainRequest) (report : List ℕ) : Type 0 where
  pub run : PlainRun
  pub number : ℕ
  pub left : IsOpen k r run number
  pub reports : report ≡ open_report run.tries number
  pub told : IsReportText report (kinds.Unfinished run.tries number stage.LeanSmall)
  pub due : shared k r ≡ Unfinished report

-- how the request of a chain ends
abbrev pub IsConcluded : Chain → PlainRequest → Ending → Type 0
IsConcluded k r (endings.Unfinished report) = IsOpenEnd k r report.items
IsConcluded k r (endings.NoSelection texts) = IsNoneEnd k r texts.report.items texts.log.items
IsConcluded k r (endings.Shared texts) = IsPaidEnd k r texts.report.items texts.log.items

-- What a report needs of a payment: its coins, within their bounds and one at least, pay with what the recipients bear for the
-- recipients, the change and the fee; and the book has the transactions that made them.
pub record CanPay (k : Chain) (r : PlainRequest) (f : PlainPaying) : Type 0 where
  pub coins : AreWithin f.coins
  pub some : 0 < length f.coins
  pub covers : paid_to r.recipients + amount_of f.change + fee_of r.rate (vsize_of f.weight) ≤ value_of f.coins + f.borne
  pub makers : All (HasMaker k.book) f.coins

-- the same, where there is a payment
abbrev pub CanReport : Chain → PlainRequest → RowsEnd → Type 0
CanReport k r (ends.Found f) = CanPay k r f
CanReport k r ends.Nothing = Unit {0}
CanReport k r (ends.Open number) = Unit {0}

-- the searches of this request came to this
pub record IsRunOf (k : Chain) (r : PlainRequest) (run : PlainRun) : Type 0 where
  pub worth : value_of (coins_for k r) ≤ 2_100_000_000_000_000
  pub comes_to : ComeTo k r run
  pub tries : run.tries ≤ r.tries
  pub means : AreSearches r k.wallet.change (coins_for k r) run run.end
  pub can : CanReport k r run.end

-- how the files end
abbrev pub IsEnded : Type 0 → (List ℕ → List ℕ) → Sources → Payment → Ending → Type 0
IsEnded told_files files s p (endings.Unfinished report) = IsUnfinished told_files files s p report.items
IsEnded told_files files s p (endings.NoSelection texts) = IsNotShared told_files files s p texts.report.items texts.log.items
IsEnded told_files files s p (endings.Shared texts) = IsShared told_files files s p texts.report.items texts.log.items
