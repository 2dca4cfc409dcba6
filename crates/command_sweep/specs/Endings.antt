-- How a sweep ends whose files are read.
use Rattle.std.specs.Prelude.{ℕ, ◌≡◌, List, All, None}
use Rattle.coin_candidates.specs.declared.candidate.Candidate.{Candidate}
use Rattle.fee_sharing.specs.declared.swept.Swept.{Swept as SweptCoins}
use Rattle.fee_sharing.specs.declared.swept.Swept.TheVariants as sweeps
use Rattle.fund_report.specs.ReportText.{IsReportText}
use Rattle.fund_report.specs.declared.report.Report.TheVariants as kinds
use Rattle.psbt_codec.specs.Psbt.{IsPsbt}
use Rattle.request_text.specs.PlainRequest.{PlainRequest}
use Rattle.fund_files.specs.declared.chain.Chain.{Chain}
use Rattle.fund_payment.specs.Shown.{ShowsCoins}
use Rattle.fund_steps.specs.Amounts.{AreWithin}
use Rattle.payment_states.specs.Makers.{HasMaker}
use Rattle.command_end.specs.Names.{Sources}
use Rattle.command_inputs.specs.Names.{Payment}
use Rattle.command_inputs.specs.Outcome.{none_report}
use Rattle.command_amounts.specs.Signing.{psbt_from}
use Rattle.command_sweep.specs.Outcome.{NoSelection, Swept, sweep_report, swept, swept_request}
use Rattle.command_sweep.specs.Results.{IsNotSwept, IsShort, IsSwept, SweepsAll}
use Rattle.command_sweep.specs.declared.ending.Ending.{Ending}
use Rattle.command_sweep.specs.declared.ending.Ending.TheVariants as endings

-- the report of a payment of these coins
pub record IsSweptText (k : Chain) (r : PlainRequest) (coins : List Candidate) (amount : ℕ) (report : List ℕ) : Type 0 where
  pub psbt : IsPsbt (psbt_from k.book (swept_request r amount) k.wallet.change coins None)
  pub shows : ShowsCoins coins (psbt_from k.book (swept_request r amount) k.wallet.change coins None)
  pub reports : report ≡ sweep_report k r coins amount
  pub fit : AreWithin coins

-- a payment of all coins of a chain, and its report
pub record IsPaid (k : Chain) (r : PlainRequest) (report : List ℕ) : Type 0 where
  pub coins : List Candidate
  pub amount : ℕ
  pub sweeps : SweepsAll k r coins amount
  pub text : IsSweptText k r coins amount report
  pub due : swept k r ≡ Swept report

-- nothing is swept, and its report
pub record IsUnpaid (k : Chain) (r : PlainRequest) (report : List ℕ) : Type 0 where
  pub short : IsShort k r
  pub reports : report ≡ none_report 0
  pub told : IsReportText report (kinds.NoSelection 0)
  pub due : swept k r ≡ NoSelection report

-- how the request of a chain ends
abbrev pub IsConcluded : Chain → PlainRequest → Ending → Type 0
IsConcluded k r (endings.NoSelection report) = IsUnpaid k r report.items
IsConcluded k r (endings.Swept report) = IsPaid k r report.items

-- What a report needs of what the coins come to: what is due is told, and the book has the transactions that made the coins.
abbrev pub CanEnd : Chain → PlainRequest → SweptCoins → Type 0
CanEnd k r sweeps.Short = IsShort k r × (swept k r ≡ NoSelection (none_report 0))
CanEnd k r (sweeps.Paid coins amount) =
    SweepsAll k r coins.items amount × AreWithin coins.items × All (HasMaker k.book) coins.items × (swept k r ≡ Swept (sweep_report k r coins.items amount))

-- how the files end
abbrev pub IsEnded : Type 0 → (List ℕ → List ℕ) → Sources → Payment → Ending → Type 0
IsEnded told_files files s p (endings.NoSelection report) = IsNotSwept told_files files s p report.items
IsEnded told_files files s p (endings.Swept report) = IsSwept told_files files s p report.items
