-- What the files of a payment come to whose recipients bear the fee.
use Rattle.std.specs.Prelude.{ℕ, ◌-◌, Bool, true, nat_lt, List, [], ◌∷◌, ◌++◌, suc, codes, Option, Some, None, Result, Ok, Err, if◌then◌else◌}
use Rattle.std.specs.Fmt.{decimal}
use Rattle.closing_log.specs.Log.{PlainLog, PlainSection}
use Rattle.closing_log.specs.LogText as logs
use Rattle.closing_log.specs.declared.log.Stage.TheVariants as stage
use Rattle.coin_candidates.specs.declared.candidate.Candidate.{Candidate}
use Rattle.fund_plan.specs.Pays.{outputs_of}
use Rattle.fund_report.specs.ReportText as reports
use Rattle.fund_report.specs.ReportText.{change_text}
use Rattle.fund_report.specs.declared.report.Report.TheVariants as report
use Rattle.fund_steps.specs.Amounts.{value_of}
use Rattle.fund_steps.specs.declared.fault.PlanFault.{PlanFault}
use Rattle.fund_steps.specs.declared.fault.PlanFault.TheVariants as plans
use Rattle.psbt_codec.specs.Fault.{shown}
use Rattle.request_text.specs.PlainRequest.{PlainRequest}
use Rattle.fund_files.specs.Cause.{FileCause}
use Rattle.fund_files.specs.declared.chain.Chain.{Chain}
use Rattle.command_end.specs.LinesText.{lines_text}
use Rattle.command_end.specs.Names.{Sources}
use Rattle.command_end.specs.declared.status.Status.{Status}
use Rattle.command_end.specs.declared.status.Status.TheVariants as statuses
use Rattle.command_inputs.specs.Cause.{Cause, Files, Plan, status_of_cause}
use Rattle.command_inputs.specs.Names.{Payment}
use Rattle.command_inputs.specs.Outcome.{none_report}
use Rattle.command_amounts.specs.Coins.{coins_for}
use Rattle.command_amounts.specs.Files.{held_in}
use Rattle.command_amounts.specs.Lines.{figure_lines, in_lines, psbt_line}
use Rattle.command_amounts.specs.Signing.{psbt_text_from}
use Rattle.command_share.specs.Asked.{is_for_share}
use Rattle.command_share.specs.Paying.{PlainPaying, amounts_left, shared_request, short_in}
use Rattle.command_share.specs.Rows.{PlainRun, searched}
use Rattle.command_share.specs.declared.rows.RowsEnd.{RowsEnd}
use Rattle.command_share.specs.declared.rows.RowsEnd.TheVariants as ends

-- A refusal as that of a payment; or of a request that isn't taken; or of the recipient of this index, which can't bear its share.
-- Or a report with which the tries are used up; or a report and a log, where no row has a selection or of a payment.
pub data Outcome : Type 0 where
  Refused : Cause → Outcome
  NotShare : Outcome
  ShareDust : (index : ℕ) → Outcome
  Unfinished : (report : List ℕ) → Outcome
  NoSelection : (report log : List ℕ) → Outcome
  Shared : (report log : List ℕ) → Outcome

-- ---- texts

-- the log of finished searches, which is ended
abbrev pub ended_log : List PlainSection → PlainLog
ended_log sections = record { closed = sections; tail = None; ended = true }

abbrev pub log_text : List PlainSection → List ℕ
log_text sections = logs.text_of (ended_log sections)

-- the report where the tries are used up in the row of this number
abbrev pub open_report : (tries number : ℕ) → List ℕ
open_report tries number = reports.text_of (report.Unfinished tries number stage.LeanSmall)

-- the line of what a recipient gets, by its place, in satoshi
unfoldable pub pay_line : (place amount : ℕ) → List ℕ
pay_line place amount = codes "pay " ++ (decimal place ++ (32 ∷ decimal amount))

abbrev pub pay_lines : (place : ℕ) → List ℕ → List (List ℕ)
pay_lines place [] = []
pay_lines place (a ∷ others) = pay_line place a ∷ pay_lines (suc place) others

-- the change, or `none`
unfoldable pub change_line : Option ℕ → List ℕ
change_line change = codes "change " ++ change_text change

-- the row and the tries
unfoldable pub head_lines : (row tries : ℕ) → List (List ℕ)
head_lines row tries = codes "shared" ∷ (codes "row " ++ decimal row) ∷ (codes "tries " ++ decimal tries) ∷ []

-- what the coins are worth less what the outputs take
abbrev pub fee_in : PlainRequest → PlainPaying → ℕ
fee_in r f = value_of f.coins - outputs_of (shared_request r f.borne) f.change

-- The row of its coins and all tries; the coins that it spends; what each recipient gets; what it comes to; and the change.
unfoldable pub shared_lines : (amounts : List ℕ) → (fee tries : ℕ) → PlainPaying → List ℕ
shared_lines amounts fee tries f =
    lines_text (head_lines f.row.number tries)
    ++ (lines_text (in_lines f.coins) ++ (lines_text (pay_lines 0 amounts) ++ (lines_text (figure_lines f.weight fee) ++ lines_text (change_line f.change ∷ []))))

-- the same of what the recipients are left with, and what a signer gets
abbrev pub share_report : Chain → PlainRequest → (tries : ℕ) → PlainPaying → List ℕ
share_report k r tries f = shared_lines (amounts_left r f.borne) (fee_in r f) tries f ++ lines_text (psbt_line (psbt_text_from k.book (shared_request r f.borne) k.wallet.change f.coins f.change) ∷ [])

-- ---- what is due

-- by the first recipient that can't bear its share
abbrev pub by_short : Chain → PlainRequest → PlainRun → PlainPaying → Option ℕ → Outcome
by_short k r run f (Some place) = ShareDust (shown place)
by_short k r run f None = Shared (share_report k r run.tries f) (log_text run.sections)

-- by what the searches come to
abbrev pub by_end : Chain → PlainRequest → PlainRun → RowsEnd → Outcome
by_end k r run ends.Nothing = NoSelection (none_report run.tries) (log_text run.sections)
by_end k r run (ends.Found f) = by_short k r run f (short_in r f.borne)
by_end k r run (ends.Open number) = Unfinished (open_report run.tries number)

abbrev pub by_run : Chain → PlainRequest → Result PlainRun PlanFault → Outcome
by_run k r (Err fault) = Refused (Plan fault)
by_run k r (Ok run) = by_end k r run run.end

-- by the coins that may be spent
abbrev pub by_candidates : Chain → PlainRequest → List Candidate → Outcome
by_candidates k r cs = by_run k r (searched r k.wallet.change cs)

-- what is due for a request that is taken
unfoldable pub shared : Chain → PlainRequest → Outcome
shared k r =
    if nat_lt 2_100_000_000_000_000 (value_of (coins_for k r)) then Refused (Plan (plans.Total (value_of (coins_for k r)))) else by_candidates k r (coins_for k r)

-- by whether it is taken
abbrev pub by_test : Chain → PlainRequest → Bool → Outcome
by_test k r taken = if taken then shared k r else NotShare

-- by what the files hold, or the cause for which one is refused
abbrev pub by_files : Result (Chain × PlainRequest) FileCause → Outcome
by_files (Err cause) = Refused (Files cause)
by_files (Ok held) = by_test held.0 held.1 (is_for_share held.1)

-- what the files come to
abbrev pub outcome_of : (List ℕ → List ℕ) → Sources → Payment → Outcome
outcome_of files s p = by_files (held_in files s p)

-- the status of that, where nothing fails
abbrev pub status_of : Outcome → Status
status_of (Refused cause) = status_of_cause cause
status_of NotShare = statuses.Input
status_of (ShareDust index) = statuses.Input
status_of (Unfinished report) = statuses.Unfinished
status_of (NoSelection report log) = statuses.NoSelection
status_of (Shared report log) = statuses.Done

-- it is refused
abbrev pub IsRefusal : Outcome → Type 0
IsRefusal (Refused cause) = Unit {0}
IsRefusal NotShare = Unit {0}
IsRefusal (ShareDust index) = Unit {0}
IsRefusal (Unfinished report) = ⊥
IsRefusal (NoSelection report log) = ⊥
IsRefusal (Shared report log) = ⊥
