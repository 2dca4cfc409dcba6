-- How a workload ends, by its status.
use Rattle.std.specs.Prelude.{ℕ, ◌≡◌, ◌⊎◌, List, ◌++◌, All, codes}
use Rattle.fund_shelf.specs.Causes.{SinkView, Rose, HasPart}
use Rattle.fund_payment.specs.Report.{psbt_of, report_of}
use Rattle.fund_payment.specs.Shown.{ShowsCoins}
use Rattle.fund_plan.specs.Answer.{IsPayment}
use Rattle.fund_plan.specs.Claims.{Claims, IsProvedNone, IsUsedUp}
use Rattle.fund_plan.specs.Outcome.{log_at, outcome_at, tries_at}
use Rattle.fund_plan.specs.Selection.{PlainFunded}
use Rattle.fund_plan.specs.Steps.{steps_of}
use Rattle.fund_plan.specs.declared.outcome.Outcome.TheVariants as answers
use Rattle.fund_report.specs.ReportText.{IsReportText}
use Rattle.fund_report.specs.declared.report.Report.TheVariants as kinds
use Rattle.fund_steps.specs.Plan.{IsEligible, IsPlan}
use Rattle.psbt_codec.specs.Psbt.{IsPsbt}
use Rattle.search_run.specs.Step.{AreSteps}
use Rattle.command_work.specs.Load.{request_of, wallet_of}
use Rattle.command_work.specs.Summary.{summary_text}
use Rattle.command_end.specs.Lines.{GotLine, fault_line}
use Rattle.command_end.specs.declared.status.Status.{Status}
use Rattle.command_end.specs.declared.status.Status.TheVariants as statuses
use Rattle.command_inputs.specs.Cause.{cause_of, status_of_cause}
use Rattle.command_inputs.specs.Packages.{PaysForPackages}
use Rattle.command_inputs.specs.Words.{refusal_words}
use Rattle.command_inputs.specs.declared.refusal.Refusal.{Refusal}
use Rattle.command_work.specs.Outcome.{IsCollision, Outcome, Refused, Summed, outcome_of, load_of, load_plan}

-- the status of what a workload comes to, where nothing fails
abbrev pub status_of : Outcome → Status
status_of (Refused cause) = status_of_cause cause
status_of (Summed status summary) = status

-- ---- summaries

-- The summary of a payment from the workload, with its 100,000 tries. The payment's coins are candidates of the wallet,
-- of groups of the pool of the row that it names; the transaction made of them pays the recipient exactly, and at least the
-- fee, with the Pending payments that its coins rest on too. The PSBT in the report is of version 0 (BIP 174), and each of its
-- inputs shows the value and the script of its coin. An exhausted payment is proved to be the best, by the log of the run. The
-- searches and draws of its plan keep their rules.
pub record IsFunded (number count : ℕ) (summary : List ℕ) : Type 0 where
  pub funded : PlainFunded
  pub plan : IsPlan (load_plan number count)
  pub steps : AreSteps (steps_of (load_plan number count))
  pub outcome : outcome_at (load_plan number count) 100_000 ≡ answers.Funded funded
  pub pays : IsPayment (load_plan number count) funded
  pub eligible : All (IsEligible (load_plan number count)) funded.coins
  pub packages : PaysForPackages (wallet_of number count) (load_of number count).book (request_of number count) funded
  pub claims : Claims (load_plan number count) 100_000 funded
  pub psbt : IsPsbt (psbt_of (load_of number count).book (request_of number count) (wallet_of number count).change funded)
  pub shows : ShowsCoins funded.coins (psbt_of (load_of number count).book (request_of number count) (wallet_of number count).change funded)
  pub sums : summary ≡ summary_text number count (report_of (load_of number count).book (request_of number count) (wallet_of number count).change (tries_at (load_plan number count) 100_000) funded)
  pub comes_to : outcome_of number count ≡ Summed statuses.Done summary

-- The summary of a run that found that nothing pays, which its log proves.
pub record IsNotFunded (number count : ℕ) (summary : List ℕ) : Type 0 where
  pub report : List ℕ
  pub plan : IsPlan (load_plan number count)
  pub outcome : outcome_at (load_plan number count) 100_000 ≡ answers.NoSelection
  pub none : IsProvedNone (load_plan number count) (log_at (load_plan number count) 100_000)
  pub told : IsReportText report (kinds.NoSelection (tries_at (load_plan number count) 100_000))
  pub sums : summary ≡ summary_text number count report
  pub comes_to : outcome_of number count ≡ Summed statuses.NoSelection summary

-- The summary of a run whose tries are used up while a search is open.
pub record IsUnfinished (number count : ℕ) (summary : List ℕ) : Type 0 where
  pub report : List ℕ
  pub plan : IsPlan (load_plan number count)
  pub outcome : outcome_at (load_plan number count) 100_000 ≡ answers.Unfinished
  pub used_up : IsUsedUp (load_plan number count) 100_000
  pub told : IsReportText report (kinds.Unfinished (tries_at (load_plan number count) 100_000) used_up.step.row used_up.step.stage)
  pub sums : summary ≡ summary_text number count report
  pub comes_to : outcome_of number count ≡ Summed statuses.Unfinished summary

-- by the status of the run
abbrev pub IsSummary : ℕ → ℕ → Status → List ℕ → Type 0
IsSummary number count statuses.Done summary = IsFunded number count summary
IsSummary number count statuses.NoSelection summary = IsNotFunded number count summary
IsSummary number count statuses.Unfinished summary = IsUnfinished number count summary
IsSummary number count status summary = ⊥

-- ---- ends

-- with the status of a run: behind what was in the sink stands its summary, and nothing else
abbrev pub EndsSummed : Type 0 → ℕ → ℕ → Status → SinkView → SinkView → Type 0
EndsSummed told number count status sink sink' = (summary : List ℕ) × IsSummary number count status summary × (told → sink'.written ≡ sink.written ++ summary)

-- two of the workload's transactions have one txid, and the line says which
abbrev pub EndsCollided : Type 0 → ℕ → ℕ → SinkView → SinkView → Type 0
EndsCollided told number count sink sink' =
    (refusal : Refusal) × IsCollision number count (cause_of refusal) × (outcome_of number count ≡ Refused (cause_of refusal)) × (told → GotLine (fault_line (refusal_words refusal)) sink sink')

-- a refusal of this status: there is no other
abbrev pub EndsRefused : Status → Type 0 → ℕ → ℕ → SinkView → SinkView → Type 0
EndsRefused statuses.Input told number count sink sink' = EndsCollided told number count sink sink'
EndsRefused status told number count sink sink' = ⊥

-- nothing is refused, and the sink failed and has got a part of the summary
abbrev pub EndsUnwritten : Type 0 → ℕ → ℕ → SinkView → SinkView → Type 0
EndsUnwritten told number count sink sink' =
    (status : Status) × (summary : List ℕ) × IsSummary number count status summary × Rose sink.faults sink'.faults × (told → HasPart sink.written summary sink'.written)

-- there was not enough memory, and the line says so; or the sink found none, and has got a part of the summary
abbrev pub EndsWithoutMemory : Type 0 → ℕ → ℕ → SinkView → SinkView → Type 0
EndsWithoutMemory told number count sink sink' =
    (told → GotLine (fault_line (codes "memory")) sink sink')
    ⊎ ((status : Status) × (summary : List ℕ) × IsSummary number count status summary × Rose sink.refusals sink'.refusals × (told → HasPart sink.written summary sink'.written))

-- By the status. It is never one of files, of words, of a limit, of kept jobs or of a check.
abbrev pub Ends : Type 0 → ℕ → ℕ → SinkView → SinkView → Status → Type 0
Ends told number count sink sink' statuses.Done = EndsSummed told number count statuses.Done sink sink'
Ends told number count sink sink' statuses.NoSelection = EndsSummed told number count statuses.NoSelection sink sink'
Ends told number count sink sink' statuses.Unfinished = EndsSummed told number count statuses.Unfinished sink sink'
Ends told number count sink sink' statuses.Usage = ⊥
Ends told number count sink sink' statuses.Input = EndsRefused statuses.Input told number count sink sink'
Ends told number count sink sink' statuses.Limit = EndsRefused statuses.Limit told number count sink sink'
Ends told number count sink sink' statuses.ReadFault = ⊥
Ends told number count sink sink' statuses.WriteFault = EndsUnwritten told number count sink sink'
Ends told number count sink sink' statuses.KeepFault = ⊥
Ends told number count sink sink' statuses.Memory = EndsWithoutMemory told number count sink sink'
Ends told number count sink sink' statuses.Saved = ⊥
Ends told number count sink sink' statuses.CheckRefused = ⊥
Ends told number count sink sink' statuses.Settle = ⊥
