-- A plan that went on from a job, and how the request ends.
use Rattle.std.specs.Prelude.{ℕ, ◌≡◌, List, Option}
use Rattle.closing_log.specs.LogText as logs
use Rattle.fund_outside.specs.Kept.{KeptJob}
use Rattle.fund_plan.specs.Answer.{ArePayments, HasSelection}
use Rattle.fund_plan.specs.Resumed.{log_in}
use Rattle.fund_plan.specs.Selection.{PlainFunded}
use Rattle.fund_plan.specs.State.{PlanState}
use Rattle.fund_plan.specs.Steps.{steps_of}
use Rattle.fund_plan.specs.declared.outcome.Outcome.TheVariants as answers
use Rattle.fund_report.specs.ReportText.{IsReportText}
use Rattle.fund_report.specs.declared.report.Report.TheVariants as kinds
use Rattle.fund_steps.specs.Plan.{IsPlan}
use Rattle.psbt_codec.specs.Psbt.{IsPsbt}
use Rattle.request_text.specs.PlainRequest.{PlainRequest}
use Rattle.search_run.specs.Step.{AreSteps}
use Rattle.fund_files.specs.declared.chain.Chain.{Chain}
use Rattle.fund_payment.specs.Report.{psbt_of, report_of}
use Rattle.fund_payment.specs.Shown.{ShowsCoins}
use Rattle.kept_job.specs.Resuming.{HasResumed}
use Rattle.kept_job.specs.declared.resuming.Resumed.{Resumed}
use Rattle.command_inputs.specs.Outcome.{none_report, open_report, plan_of}
use Rattle.command_inputs.specs.PlanEnds.{IsOpenReport}
use Rattle.command_inputs.specs.Packages.{PaysForPackages}
use Rattle.command_inputs.specs.Replacing.{ReplacesIf}
use Rattle.command_resume.specs.Endings.{CanBeLeft}
use Rattle.command_inputs.specs.declared.funding.Ending.{Ending}
use Rattle.command_resume.specs.declared.resuming.LoadedJob.{LoadedJob}
use Rattle.command_inputs.specs.declared.funding.Ending.TheVariants as endings
use Rattle.command_inputs.specs.declared.funding.Left.{Left}

-- a plan that went on from the job of this digest, and what it came to
pub record Run : Type 0 where
  pub plan : PlanState
  pub digest : List ℕ
  pub resumed : Resumed

-- a run of the request's plan that went on from some job with the request's tries, of which nothing is told
pub record IsRunOn (k : Chain) (r : PlainRequest) (run : Run) : Type 0 where
  pub rules : IsPlan (plan_of k r)
  pub steps : AreSteps (steps_of (plan_of k r))
  pub job : Option KeptJob
  pub resumed : HasResumed ⊥ (plan_of k r) run.digest job r.tries run.plan run.resumed
  pub pays : ArePayments (plan_of k r) run.resumed.outcome
  pub fits : HasSelection r run.resumed.outcome

-- the report and the log of a payment to which it came
pub record IsPaid (k : Chain) (r : PlainRequest) (run : Run) (report log : List ℕ) : Type 0 where
  pub funded : PlainFunded
  pub is : run.resumed.outcome ≡ answers.Funded funded
  pub psbt : IsPsbt (psbt_of k.book r k.wallet.change funded)
  pub shows : ShowsCoins funded.coins (psbt_of k.book r k.wallet.change funded)
  pub replaces : ReplacesIf k.wallet k.book r funded
  pub packages : PaysForPackages k.wallet k.book r funded
  pub reports : report ≡ report_of k.book r k.wallet.change run.plan.stand.past.tries funded
  pub logs : log ≡ logs.text_of (log_in run.plan)

-- those of no selection
pub record IsUnpaid (run : Run) (report log : List ℕ) : Type 0 where
  pub is : run.resumed.outcome ≡ answers.NoSelection
  pub reports : report ≡ none_report run.plan.stand.past.tries
  pub told : IsReportText report (kinds.NoSelection run.plan.stand.past.tries)
  pub logs : log ≡ logs.text_of (log_in run.plan)

-- what is left of one that is unfinished: its report, its plan, its digest, and what was loaded of its log
pub record IsStillOpen (run : Run) (left : Left LoadedJob) : Type 0 where
  pub is : run.resumed.outcome ≡ answers.Unfinished
  pub reports : left.report.items ≡ open_report run.plan.stand.past.tries run.plan.stand.left
  pub told : IsOpenReport left.report.items run.plan.stand.past.tries run.plan.stand.left
  pub plan_is : left.plan ≡ run.plan
  pub digest_is : left.job.digest ≡ run.digest
  pub behind_is : left.job.behind ≡ run.resumed.behind
  pub can : CanBeLeft left

-- how the request ends after it
abbrev pub IsConcluded : Chain → PlainRequest → Run → Ending LoadedJob → Type 0
IsConcluded k r run (endings.Unfinished left) = IsStillOpen run left
IsConcluded k r run (endings.NoSelection texts) = IsUnpaid run texts.report.items texts.log.items
IsConcluded k r run (endings.Funded texts) = IsPaid k r run texts.report.items texts.log.items
