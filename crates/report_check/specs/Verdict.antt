-- Which reports are accepted with their logs, and which rule the others break first.
use Rattle.std.specs.Prelude.{ℕ, ◌≡◌, List}
use Rattle.closing_log.specs.Exact.{IsFirstFault}
use Rattle.closing_log.specs.Log.{PlainLog}
use Rattle.fund_plan.specs.Steps.{steps_of}
use Rattle.fund_report.specs.declared.report.Report.{Report}
use Rattle.fund_report.specs.declared.report.Report.TheVariants as reports
use Rattle.fund_steps.specs.Plan.{PlainPlan}
use Rattle.psbt_codec.specs.PartialTransaction.{PartialTransaction}
use Rattle.psbt_codec.specs.Text.{HasPsbtFault, IsPsbtText}
use Rattle.report_check.specs.Answer.{IsAnswered}
use Rattle.report_check.specs.DueSections.{AreRight, IsSectionWrong}
use Rattle.report_check.specs.Payment.{AreSpendable, IsFirstForeign, PaysBy}
use Rattle.report_check.specs.Proved.{AreProved, HasTries, IsEndedText, IsFirstRefused, tries_place}
use Rattle.report_check.specs.declared.fault.CheckFault.{CheckFault}
use Rattle.report_check.specs.declared.fault.CheckFault.TheVariants.{Report as ReportFault, Psbt, Coin, Pays, LogForm, Section, Log, Answer, Memory}
use Rattle.psbt_codec.specs.declared.fault.PsbtFault.{PsbtFault}
use Rattle.fund_base.specs.declared.outpoint.OutPoint.{OutPoint}

-- ---- rules of the report alone

-- a payment's text is a PSBT, and the report says what it does; where there is no payment nothing is asked
abbrev pub IsPaid : PlainPlan → Report → Type 0
IsPaid p (reports.Funded f) = (t : PartialTransaction) × IsPsbtText f.text t × PaysBy p f t
IsPaid p (reports.NoSelection tries) = Unit {0}
IsPaid p (reports.Unfinished tries row stage) = Unit {0}

abbrev pub HasNoPsbt : Report → PsbtFault → Type 0
HasNoPsbt (reports.Funded f) e = HasPsbtFault f.text e
HasNoPsbt (reports.NoSelection tries) e = ⊥
HasNoPsbt (reports.Unfinished tries row stage) e = ⊥

abbrev pub SpendsForeign : PlainPlan → Report → OutPoint → Type 0
SpendsForeign p (reports.Funded f) point = (t : PartialTransaction) × IsPsbtText f.text t × IsFirstForeign p f.row t.tx.inputs point
SpendsForeign p (reports.NoSelection tries) point = ⊥
SpendsForeign p (reports.Unfinished tries row stage) point = ⊥

abbrev pub IsUnpaid : PlainPlan → Report → Type 0
IsUnpaid p (reports.Funded f) = (t : PartialTransaction) × IsPsbtText f.text t × AreSpendable p f.row t.tx.inputs × (PaysBy p f t → ⊥)
IsUnpaid p (reports.NoSelection tries) = ⊥
IsUnpaid p (reports.Unfinished tries row stage) = ⊥

-- ---- reports with their logs

-- a run that goes on writes no log, and none is read
abbrev pub HasLog : Report → Type 0
HasLog (reports.Funded f) = Unit {0}
HasLog (reports.NoSelection tries) = Unit {0}
HasLog (reports.Unfinished tries row stage) = ⊥

-- The log keeps all rules beside this report: its sections are those that are due, each is accepted, the report has their
-- tries, and the answer that they give.
pub record IsBacked (p : PlainPlan) (r : Report) (log : PlainLog) : Type 0 where
  pub sections : AreRight (steps_of p) r log.closed
  pub proved : AreProved (steps_of p) log.closed
  pub tries : HasTries r log.closed
  pub answer : IsAnswered p r log.closed

-- The first rule that the log breaks beside this report, in this order: a section isn't the one that is due; the letters of
-- a section aren't accepted; the report hasn't its tries; the answer isn't the one that it gives.
abbrev pub BreaksFirst : PlainPlan → Report → PlainLog → CheckFault → Type 0
BreaksFirst p r log (Section i) = IsSectionWrong (steps_of p) r log.closed i
BreaksFirst p r log (Log i e) = AreRight (steps_of p) r log.closed × IsFirstRefused (steps_of p) log.closed i e
BreaksFirst p r log (ReportFault place) =
    AreRight (steps_of p) r log.closed × AreProved (steps_of p) log.closed × (HasTries r log.closed → ⊥) × (place ≡ tries_place r)
BreaksFirst p r log Answer =
    AreRight (steps_of p) r log.closed × AreProved (steps_of p) log.closed × HasTries r log.closed × (IsAnswered p r log.closed → ⊥)
BreaksFirst p r log (Psbt e) = ⊥
BreaksFirst p r log (Coin point) = ⊥
BreaksFirst p r log Pays = ⊥
BreaksFirst p r log (LogForm place) = ⊥
BreaksFirst p r log Memory = ⊥

-- The report is accepted with these bytes as its log. One of a run that goes on is accepted by its form alone.
abbrev pub IsAccepted : PlainPlan → Report → List ℕ → Type 0
IsAccepted p (reports.Funded f) bytes = IsPaid p (reports.Funded f) × ((log : PlainLog) × IsEndedText bytes log × IsBacked p (reports.Funded f) log)
IsAccepted p (reports.NoSelection tries) bytes = (log : PlainLog) × IsEndedText bytes log × IsBacked p (reports.NoSelection tries) log
IsAccepted p (reports.Unfinished tries row stage) bytes = Unit {0}

-- the bytes are the text of a log that comes to its end, and it breaks this rule first
abbrev pub LogBreaks : PlainPlan → Report → List ℕ → CheckFault → Type 0
LogBreaks p r bytes e = (log : PlainLog) × IsEndedText bytes log × BreaksFirst p r log e

-- The first rule that a report breaks, in this order: its text is no PSBT; an input spends a coin that may not be spent;
-- it doesn't pay as it says; the log isn't a text that comes to its end; and then the rules of the log.
abbrev pub IsReportRefusal : PlainPlan → Report → List ℕ → CheckFault → Type 0
IsReportRefusal p r bytes (Psbt e) = HasNoPsbt r e
IsReportRefusal p r bytes (Coin point) = SpendsForeign p r point
IsReportRefusal p r bytes Pays = IsUnpaid p r
IsReportRefusal p r bytes (LogForm place) = HasLog r × IsPaid p r × IsFirstFault IsEndedText bytes place
IsReportRefusal p r bytes (Section i) = HasLog r × IsPaid p r × LogBreaks p r bytes (Section i)
IsReportRefusal p r bytes (Log i e) = HasLog r × IsPaid p r × LogBreaks p r bytes (Log i e)
IsReportRefusal p r bytes (ReportFault place) = HasLog r × IsPaid p r × LogBreaks p r bytes (ReportFault place)
IsReportRefusal p r bytes Answer = HasLog r × IsPaid p r × LogBreaks p r bytes Answer
IsReportRefusal p r bytes Memory = Unit {0}
