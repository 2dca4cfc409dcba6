-- How a wide search ends whose files are read.
use Rattle.std.specs.Prelude.{ℕ, ◌≡◌, List, All}
use Rattle.fund_plan.specs.Answer.{IsSelection}
use Rattle.fund_plan.specs.Selection.{PlainFunded}
use Rattle.fund_plan.specs.Steps.{steps_of}
use Rattle.fund_steps.specs.Plan.{IsPlan}
use Rattle.fund_report.specs.ReportText.{IsReportText}
use Rattle.fund_report.specs.declared.report.Report.TheVariants as kinds
use Rattle.payment_states.specs.Makers.{HasMaker}
use Rattle.psbt_codec.specs.Psbt.{IsPsbt}
use Rattle.request_text.specs.PlainRequest.{PlainRequest}
use Rattle.search_run.specs.Step.{AreSteps}
use Rattle.fund_files.specs.declared.chain.Chain.{Chain}
use Rattle.fund_payment.specs.Report.{psbt_of, report_of}
use Rattle.fund_payment.specs.Shown.{ShowsCoins}
use Rattle.command_end.specs.Names.{Sources}
use Rattle.command_inputs.specs.Names.{Payment}
use Rattle.command_inputs.specs.Outcome.{none_report, plan_of}
use Rattle.wide_plan.specs.LogText.{text_of}
use Rattle.wide_plan.specs.Payments.{ArePayments, HasSelection}
use Rattle.wide_plan.specs.Run.{PlainWideRun, run_of}
use Rattle.wide_plan.specs.declared.outcome.WideOutcome.{WideOutcome}
use Rattle.wide_plan.specs.declared.outcome.WideOutcome.TheVariants as answers
use Rattle.command_wide.specs.Outcome.{open_report}
use Rattle.command_wide.specs.Results.{IsFunded, IsNotFunded, IsUnfinished}
use Rattle.command_wide.specs.declared.ending.Ending.{Ending}
use Rattle.command_wide.specs.declared.ending.Ending.TheVariants as endings

-- the search of this request came to this
pub record IsRunOf (k : Chain) (r : PlainRequest) (run : PlainWideRun) : Type 0 where
  pub is : run ≡ run_of (plan_of k r)
  pub rules : IsPlan (plan_of k r)
  pub steps : AreSteps (steps_of (plan_of k r))
  pub pays : ArePayments (plan_of k r) run.outcome
  pub fits : HasSelection (plan_of k r) run.outcome

-- the report and the log of no selection
pub record AreNoneTexts (run : PlainWideRun) (report log : List ℕ) : Type 0 where
  pub reports : report ≡ none_report run.tries
  pub told : IsReportText report (kinds.NoSelection run.tries)
  pub logs : log ≡ text_of run.sections

-- those of a payment
pub record ArePaidTexts (k : Chain) (r : PlainRequest) (run : PlainWideRun) (f : PlainFunded) (report log : List ℕ) : Type 0 where
  pub psbt : IsPsbt (psbt_of k.book r k.wallet.change f)
  pub shows : ShowsCoins f.coins (psbt_of k.book r k.wallet.change f)
  pub reports : report ≡ report_of k.book r k.wallet.change run.tries f
  pub logs : log ≡ text_of run.sections

-- how a search ends that came to this
abbrev pub IsEndOf : Chain → PlainRequest → PlainWideRun → Ending → Type 0
IsEndOf k r run (endings.Unfinished report) = (number : ℕ) × (run.outcome ≡ answers.Unfinished number) × (report.items ≡ open_report run.tries number)
IsEndOf k r run (endings.NoSelection texts) = (run.outcome ≡ answers.NoSelection) × AreNoneTexts run texts.report.items texts.log.items
IsEndOf k r run (endings.Funded texts) = (f : PlainFunded) × (run.outcome ≡ answers.Funded f) × ArePaidTexts k r run f texts.report.items texts.log.items

-- how the request of a chain ends
pub record IsConcluded (k : Chain) (r : PlainRequest) (e : Ending) : Type 0 where
  pub run : PlainWideRun
  pub made : IsRunOf k r run
  pub ends : IsEndOf k r run e

-- how the files end
abbrev pub IsEnded : Type 0 → (List ℕ → List ℕ) → Sources → Payment → Ending → Type 0
IsEnded told_files files s p (endings.Unfinished report) = IsUnfinished told_files files s p report.items
IsEnded told_files files s p (endings.NoSelection texts) = IsNotFunded told_files files s p texts.report.items texts.log.items
IsEnded told_files files s p (endings.Funded texts) = IsFunded told_files files s p texts.report.items texts.log.items

-- What a report needs of a payment: it is one of the request, from coins whose transactions the book has.
abbrev pub CanReport : Chain → PlainRequest → WideOutcome → Type 0
CanReport k r (answers.Funded f) = IsSelection r f × All (HasMaker k.book) f.coins
CanReport k r answers.NoSelection = Unit {0}
CanReport k r (answers.Unfinished number) = Unit {0}
