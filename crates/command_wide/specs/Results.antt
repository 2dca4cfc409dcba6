-- What a wide search of files comes to, and what it means.
use Rattle.std.specs.Prelude.{ℕ, ◌≡◌, List, All}
use Rattle.block_feed.specs.Block.{ChainBlock}
use Rattle.fund_plan.specs.Answer.{IsPayment}
use Rattle.fund_plan.specs.Selection.{PlainFunded}
use Rattle.fund_plan.specs.Steps.{steps_of}
use Rattle.fund_steps.specs.Plan.{IsEligible, IsPlan}
use Rattle.fund_report.specs.ReportText.{IsReportText}
use Rattle.fund_report.specs.declared.report.Report.TheVariants as kinds
use Rattle.psbt_codec.specs.Psbt.{IsPsbt}
use Rattle.request_text.specs.PlainRequest.{PlainRequest}
use Rattle.search_run.specs.Step.{AreSteps}
use Rattle.wallet_text.specs.PlainWallet.{PlainWallet}
use Rattle.fund_files.specs.Chain.{chain_from, history_of}
use Rattle.fund_payment.specs.Report.{psbt_of, report_of}
use Rattle.fund_payment.specs.Shown.{ShowsCoins}
use Rattle.command_end.specs.Names.{Sources}
use Rattle.command_inputs.specs.Names.{Payment}
use Rattle.command_inputs.specs.Outcome.{none_report, plan_of}
use Rattle.command_inputs.specs.Packages.{PaysForPackages}
use Rattle.wide_plan.specs.Claims.{Claims, IsLeftOpen, IsProvedNone}
use Rattle.wide_plan.specs.LogText.{text_of}
use Rattle.wide_plan.specs.Run.{run_of}
use Rattle.wide_plan.specs.declared.outcome.WideOutcome.TheVariants as answers
use Rattle.command_wide.specs.Inputs.{AreInputs}
use Rattle.command_wide.specs.Outcome.{Funded, NoSelection, Unfinished, open_report, outcome_of}

-- A wallet, blocks and a request with a payment without change: its coins are candidates of groups of the pool of the row that it
-- names; the transaction made of them pays each recipient exactly, and at least the fee, with the Pending payments that its coins
-- rest on too. What a signer gets is a PSBT (BIP 174, or BIP 370 in version 2) of which each input shows the value and the script of
-- its coin. An exhausted payment is proved to be of the least waste of all choices of the first row that has one, by the log, of
-- which each section is accepted. The report and the log tell of it. Where the files are told, they hold this wallet, these blocks
-- and this request.
pub record IsFunded (told_files : Type 0) (files : List ℕ → List ℕ) (s : Sources) (p : Payment) (report log : List ℕ) : Type 0 where
  pub wallet : PlainWallet
  pub blocks : List ChainBlock
  pub asked : PlainRequest
  pub funded : PlainFunded
  pub inputs : told_files → AreInputs files s p wallet blocks asked
  pub plan : IsPlan (plan_of (chain_from wallet blocks) asked)
  pub steps : AreSteps (steps_of (plan_of (chain_from wallet blocks) asked))
  pub outcome : (run_of (plan_of (chain_from wallet blocks) asked)).outcome ≡ answers.Funded funded
  pub pays : IsPayment (plan_of (chain_from wallet blocks) asked) funded
  pub eligible : All (IsEligible (plan_of (chain_from wallet blocks) asked)) funded.coins
  pub packages : PaysForPackages wallet (history_of wallet blocks) asked funded
  pub claims : Claims (plan_of (chain_from wallet blocks) asked) funded (run_of (plan_of (chain_from wallet blocks) asked)).sections (run_of (plan_of (chain_from wallet blocks) asked)).tries
  pub psbt : IsPsbt (psbt_of (history_of wallet blocks) asked wallet.change funded)
  pub shows : ShowsCoins funded.coins (psbt_of (history_of wallet blocks) asked wallet.change funded)
  pub reports : report ≡ report_of (history_of wallet blocks) asked wallet.change (run_of (plan_of (chain_from wallet blocks) asked)).tries funded
  pub logs : log ≡ text_of (run_of (plan_of (chain_from wallet blocks) asked)).sections
  pub comes_to : told_files → outcome_of files s p ≡ Funded report log

-- A wallet, blocks and a request for which no row of the ladder has coins that pay without change, which the log proves. Where the
-- files are told, they hold this wallet, these blocks and this request.
pub record IsNotFunded (told_files : Type 0) (files : List ℕ → List ℕ) (s : Sources) (p : Payment) (report log : List ℕ) : Type 0 where
  pub wallet : PlainWallet
  pub blocks : List ChainBlock
  pub asked : PlainRequest
  pub inputs : told_files → AreInputs files s p wallet blocks asked
  pub plan : IsPlan (plan_of (chain_from wallet blocks) asked)
  pub steps : AreSteps (steps_of (plan_of (chain_from wallet blocks) asked))
  pub outcome : (run_of (plan_of (chain_from wallet blocks) asked)).outcome ≡ answers.NoSelection
  pub none : IsProvedNone (plan_of (chain_from wallet blocks) asked) (run_of (plan_of (chain_from wallet blocks) asked)).sections
  pub reports : report ≡ none_report (run_of (plan_of (chain_from wallet blocks) asked)).tries
  pub told : IsReportText report (kinds.NoSelection (run_of (plan_of (chain_from wallet blocks) asked)).tries)
  pub logs : log ≡ text_of (run_of (plan_of (chain_from wallet blocks) asked)).sections
  pub comes_to : told_files → outcome_of files s p ≡ NoSelection report log

-- A wallet, blocks and a request whose tries are used up in the row of this number, in which the next step is a try, and nothing
-- is taken. Where the files are told, they hold this wallet, these blocks and this request.
pub record IsUnfinished (told_files : Type 0) (files : List ℕ → List ℕ) (s : Sources) (p : Payment) (report : List ℕ) : Type 0 where
  pub wallet : PlainWallet
  pub blocks : List ChainBlock
  pub asked : PlainRequest
  pub number : ℕ
  pub inputs : told_files → AreInputs files s p wallet blocks asked
  pub plan : IsPlan (plan_of (chain_from wallet blocks) asked)
  pub steps : AreSteps (steps_of (plan_of (chain_from wallet blocks) asked))
  pub outcome : (run_of (plan_of (chain_from wallet blocks) asked)).outcome ≡ answers.Unfinished number
  pub left : IsLeftOpen (plan_of (chain_from wallet blocks) asked) number (run_of (plan_of (chain_from wallet blocks) asked)).sections (run_of (plan_of (chain_from wallet blocks) asked)).tries
  pub reports : report ≡ open_report (run_of (plan_of (chain_from wallet blocks) asked)).tries number
  pub comes_to : told_files → outcome_of files s p ≡ Unfinished report
