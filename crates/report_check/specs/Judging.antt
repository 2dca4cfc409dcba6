-- How a log backs a report, and why one doesn't, rule by rule.
use Rattle.std.specs.Prelude.{ℕ, ◌≡◌, List}
use Rattle.closing_log.specs.Exact.{IsFirstFault}
use Rattle.closing_log.specs.Log.{PlainLog, PlainSection}
use Rattle.fund_plan.specs.Steps.{steps_of}
use Rattle.fund_report.specs.declared.report.Report.{Report}
use Rattle.fund_steps.specs.Plan.{PlainPlan}
use Rattle.report_check.specs.Answer.{IsAnswered}
use Rattle.report_check.specs.DueSections.{AreRight, IsSectionWrong}
use Rattle.report_check.specs.Proved.{AreProved, HasTries, IsEndedText, IsFirstRefused, tries_place}
use Rattle.report_check.specs.Verdict.{IsBacked, LogBreaks}
use Rattle.report_check.specs.declared.fault.CheckFault.{CheckFault}
use Rattle.report_check.specs.declared.fault.CheckFault.TheVariants.{Report as ReportFault, Psbt, Coin, Pays, LogForm, Section, Log, Answer, Memory}

-- the sections keep all rules beside this report
pub record AreBacking (p : PlainPlan) (r : Report) (sections : List PlainSection) : Type 0 where
  pub right : AreRight (steps_of p) r sections
  pub proved : AreProved (steps_of p) sections
  pub tries : HasTries r sections
  pub answer : IsAnswered p r sections

-- the first rule that they break beside it, or there was not enough memory
abbrev pub IsBackRefusal : PlainPlan → Report → List PlainSection → CheckFault → Type 0
IsBackRefusal p r sections (Section i) = IsSectionWrong (steps_of p) r sections i
IsBackRefusal p r sections (Log i e) = AreRight (steps_of p) r sections × IsFirstRefused (steps_of p) sections i e
IsBackRefusal p r sections (ReportFault place) =
    AreRight (steps_of p) r sections × AreProved (steps_of p) sections × (HasTries r sections → ⊥) × (place ≡ tries_place r)
IsBackRefusal p r sections Answer =
    AreRight (steps_of p) r sections × AreProved (steps_of p) sections × HasTries r sections × (IsAnswered p r sections → ⊥)
IsBackRefusal p r sections (Psbt e) = ⊥
IsBackRefusal p r sections (Coin point) = ⊥
IsBackRefusal p r sections Pays = ⊥
IsBackRefusal p r sections (LogForm place) = ⊥
IsBackRefusal p r sections Memory = Unit {0}

-- the bytes are the text of a log that comes to its end, and it backs the report
abbrev pub IsBackedBy : PlainPlan → Report → List ℕ → Type 0
IsBackedBy p r bytes = (log : PlainLog) × IsEndedText bytes log × IsBacked p r log

-- the first rule that the bytes break beside it, or there was not enough memory
abbrev pub IsLogFault : PlainPlan → Report → List ℕ → CheckFault → Type 0
IsLogFault p r bytes (LogForm place) = IsFirstFault IsEndedText bytes place
IsLogFault p r bytes (Section i) = LogBreaks p r bytes (Section i)
IsLogFault p r bytes (Log i e) = LogBreaks p r bytes (Log i e)
IsLogFault p r bytes (ReportFault place) = LogBreaks p r bytes (ReportFault place)
IsLogFault p r bytes Answer = LogBreaks p r bytes Answer
IsLogFault p r bytes (Psbt e) = ⊥
IsLogFault p r bytes (Coin point) = ⊥
IsLogFault p r bytes Pays = ⊥
IsLogFault p r bytes Memory = Unit {0}
