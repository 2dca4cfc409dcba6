-- What the files of a wide search come to.
use Rattle.std.specs.Prelude.{ℕ, Bool, List, Option, Some, None, Result, Ok, Err, if◌then◌else◌}
use Rattle.closing_log.specs.declared.log.Stage.TheVariants as stage
use Rattle.fund_report.specs.ReportText as reports
use Rattle.fund_report.specs.declared.report.Report.TheVariants as report
use Rattle.fund_steps.specs.Faults.{fault_of}
use Rattle.request_text.specs.PlainRequest.{PlainRequest}
use Rattle.fund_files.specs.Cause.{FileCause}
use Rattle.fund_files.specs.Outcome.{asked_of, chain_of}
use Rattle.fund_files.specs.declared.chain.Chain.{Chain}
use Rattle.fund_payment.specs.Report.{report_of}
use Rattle.command_end.specs.Names.{Sources}
use Rattle.command_end.specs.declared.status.Status.{Status}
use Rattle.command_end.specs.declared.status.Status.TheVariants as statuses
use Rattle.command_inputs.specs.Cause.{Cause, Files, status_of_cause}
use Rattle.command_inputs.specs.Names.{Payment}
use Rattle.command_inputs.specs.Outcome.{none_report, plan_cause, plan_of}
use Rattle.wide_plan.specs.Asked.{is_for_wide}
use Rattle.wide_plan.specs.LogText as logs
use Rattle.wide_plan.specs.Run.{PlainWideRun, run_of}
use Rattle.wide_plan.specs.declared.outcome.WideOutcome.{WideOutcome}
use Rattle.wide_plan.specs.declared.outcome.WideOutcome.TheVariants as answers

-- a refusal as that of a payment, or of a request that the wide search doesn't take; or a report with which the tries are used
-- up; or a report and a log, where nothing pays or of a payment
pub data Outcome : Type 0 where
  Refused : Cause → Outcome
  NotWide : Outcome
  Unfinished : (report : List ℕ) → Outcome
  NoSelection : (report log : List ℕ) → Outcome
  Funded : (report log : List ℕ) → Outcome

-- the report where the tries are used up in the row of this number
abbrev pub open_report : (tries number : ℕ) → List ℕ
open_report tries number = reports.text_of (report.Unfinished tries number stage.Wide)

-- by what the search of a plan comes to
abbrev pub by_answer : Chain → PlainRequest → PlainWideRun → WideOutcome → Outcome
by_answer k r run (answers.Unfinished number) = Unfinished (open_report run.tries number)
by_answer k r run answers.NoSelection = NoSelection (none_report run.tries) (logs.text_of run.sections)
by_answer k r run (answers.Funded f) = Funded (report_of k.book r k.wallet.change run.tries f) (logs.text_of run.sections)

abbrev pub by_run : Chain → PlainRequest → PlainWideRun → Outcome
by_run k r run = by_answer k r run run.outcome

-- by a cause for a refusal
abbrev pub by_cause : Option Cause → Outcome → Outcome
by_cause (Some cause) due = Refused cause
by_cause None due = due

-- what is due for a request that the wide search takes
unfoldable pub searched : Chain → PlainRequest → Outcome
searched k r = by_cause (plan_cause (fault_of (plan_of k r))) (by_run k r (run_of (plan_of k r)))

-- by whether it takes the request
abbrev pub by_test : Chain → PlainRequest → Bool → Outcome
by_test k r taken = if taken then searched k r else NotWide

-- by the request that was read, or the cause for which its file is refused
abbrev pub by_asked : Chain → Result PlainRequest FileCause → Outcome
by_asked k (Err cause) = Refused (Files cause)
by_asked k (Ok r) = by_test k r (is_for_wide r)

-- by the chain, or the cause for which its files are refused
abbrev pub by_chain : (request : List ℕ) → Result Chain FileCause → Outcome
by_chain request (Err cause) = Refused (Files cause)
by_chain request (Ok k) = by_asked k (asked_of request)

-- what the files come to: they are taken one by one, the wallet, the blocks, and then the request
abbrev pub outcome_of : (List ℕ → List ℕ) → Sources → Payment → Outcome
outcome_of files s p = by_chain (files p.request) (chain_of (files s.wallet) (files s.blocks))

-- the status of that, where nothing fails
abbrev pub status_of : Outcome → Status
status_of (Refused cause) = status_of_cause cause
status_of NotWide = statuses.Input
status_of (Unfinished report) = statuses.Unfinished
status_of (NoSelection report log) = statuses.NoSelection
status_of (Funded report log) = statuses.Done

-- it is refused
abbrev pub IsRefusal : Outcome → Type 0
IsRefusal (Refused cause) = Unit {0}
IsRefusal NotWide = Unit {0}
IsRefusal (Unfinished report) = ⊥
IsRefusal (NoSelection report log) = ⊥
IsRefusal (Funded report log) = ⊥
