-- What the files of a report come to.
use Rattle.std.specs.Prelude.{ℕ, ◌≡◌, ◌≢◌, ◌⊎◌, List}
use Rattle.closing_log.specs.Exact.{IsFirstFault}
use Rattle.fund_report.specs.ReportText.{IsReportText}
use Rattle.fund_report.specs.declared.report.Report.{Report}
use Rattle.fund_steps.specs.Plan.{PlainPlan}
use Rattle.report_check.specs.Verdict.{HasLog, IsAccepted, IsReportRefusal}
use Rattle.report_check.specs.declared.fault.CheckFault.{CheckFault}
use Rattle.report_check.specs.declared.fault.CheckFault.TheVariants as faults
use Rattle.command_end.specs.Names.{Sources}
use Rattle.command_end.specs.declared.status.Status.{Status}
use Rattle.command_end.specs.declared.status.Status.TheVariants as statuses
use Rattle.command_inputs.specs.Cause.{Cause, status_of_cause}
use Rattle.command_inputs.specs.Meant.{AreRefusedFor}
use Rattle.command_inputs.specs.Names.{Payment}
use Rattle.command_check.specs.Evidence.{HasReport, HavePlan, IsReached, IsTooLong, IsWithin, evidence_name}
use Rattle.command_check.specs.declared.stop.CheckedFile.{CheckedFile}

-- a cause for which the payment is refused; a file that is judged and too long; the first rule that the report breaks; or the
-- report, which is accepted
pub data Outcome : Type 0 where
  Refused : Cause → Outcome
  TooLong : CheckedFile → Outcome
  Broken : CheckFault → Outcome
  Accepted : Report → Outcome

-- the report file leaves the texts of reports, and this is where
pub record IsFormBroken (file : List ℕ) (fault : CheckFault) : Type 0 where
  pub fits : IsWithin file
  pub place : ℕ
  pub first : IsFirstFault IsReportText file place
  pub is : fault ≡ faults.Report place

-- The payment is in order, with this plan, and so are the report and, where it has one, the length of its log.
pub record CanBeJudged (files : List ℕ → List ℕ) (s : Sources) (p : Payment) (report : List ℕ) (plan : PlainPlan) (r : Report) : Type 0 where
  pub plan_is : HavePlan files s p plan
  pub found : HasReport (files report) r
  pub within : HasLog r → IsWithin (files p.log)

-- this is the first rule that a report breaks beside its log
pub record BreaksRule (files : List ℕ → List ℕ) (s : Sources) (p : Payment) (report : List ℕ) (fault : CheckFault) : Type 0 where
  pub plan : PlainPlan
  pub found : Report
  pub judged : CanBeJudged files s p report plan found
  pub first : IsReportRefusal plan found (files p.log) fault
  pub real : fault ≢ faults.Memory

-- it breaks none
pub record KeepsRules (files : List ℕ → List ℕ) (s : Sources) (p : Payment) (report : List ℕ) (r : Report) : Type 0 where
  pub plan : PlainPlan
  pub judged : CanBeJudged files s p report plan r
  pub accepted : IsAccepted plan r (files p.log)

-- The files come to this. They are taken one by one: those of the payment, which are refused as where it is funded; the
-- report, for its length and then for its form; the length of the log, where the report has one; and then the rules.
abbrev pub ComesTo : (List ℕ → List ℕ) → Sources → Payment → (report : List ℕ) → Outcome → Type 0
ComesTo files s p report (Refused cause) = AreRefusedFor files s p cause
ComesTo files s p report (TooLong file) = IsReached files s p report file × IsTooLong (files (evidence_name p report file))
ComesTo files s p report (Broken fault) =
    (((plan : PlainPlan) × HavePlan files s p plan) × IsFormBroken (files report) fault) ⊎ BreaksRule files s p report fault
ComesTo files s p report (Accepted r) = KeepsRules files s p report r

-- the report is accepted
abbrev pub IsAnAcceptance : Outcome → Type 0
IsAnAcceptance (Refused cause) = ⊥
IsAnAcceptance (TooLong file) = ⊥
IsAnAcceptance (Broken fault) = ⊥
IsAnAcceptance (Accepted r) = Unit {0}

-- the status of that, where nothing fails
abbrev pub status_of : Outcome → Status
status_of (Refused cause) = status_of_cause cause
status_of (TooLong file) = statuses.Limit
status_of (Broken fault) = statuses.CheckRefused
status_of (Accepted r) = statuses.Done
