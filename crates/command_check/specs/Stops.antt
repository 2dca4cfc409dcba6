-- Why a check stops before it says that the report is accepted.
use Rattle.std.specs.Prelude.{ℕ, ◌≡◌, ◌≢◌, List}
use Rattle.fund_shelf.specs.Causes.{ShelfView, Rose}
use Rattle.fund_shelf.specs.declared.pieces.ReadError.{ReadError}
use Rattle.fund_shelf.specs.declared.pieces.ReadError.TheVariants as reads
use Rattle.fund_report.specs.declared.fault.ReportFault.{ReportFault}
use Rattle.fund_report.specs.declared.fault.ReportFault.TheVariants as forms
use Rattle.fund_report.specs.declared.report.Report as reports
use Rattle.fund_steps.specs.Plan.{PlainPlan}
use Rattle.report_check.specs.Verdict.{HasLog, IsReportRefusal}
use Rattle.report_check.specs.declared.fault.CheckFault.{CheckFault}
use Rattle.report_check.specs.declared.fault.CheckFault.TheVariants as faults
use Rattle.command_end.specs.Names.{Sources}
use Rattle.command_inputs.specs.Names.{Payment}
use Rattle.command_inputs.specs.Stops as payments
use Rattle.command_check.specs.Outcome.{TooLong, Broken, ComesTo, IsFormBroken}
use Rattle.command_check.specs.Evidence.{HasLoggedReport, IsReached, IsTooLong, IsUnread}
use Rattle.command_check.specs.declared.stop.CheckedFile.{CheckedFile}
use Rattle.command_check.specs.declared.stop.CheckedFile.TheVariants.{Report, Log}
use Rattle.command_check.specs.declared.stop.Stop.{Stop}
use Rattle.command_check.specs.declared.stop.Stop.TheVariants as stops

-- the stop of a report that breaks this rule: being out of memory comes from that of the judgement alone
abbrev pub stop_of_fault : CheckFault → Stop
stop_of_fault faults.Memory = stops.Memory
stop_of_fault fault = stops.Broken fault

-- ---- one file

-- the stop of a file that wasn't read whole
abbrev pub read_stop_of : CheckedFile → ReadError → Stop
read_stop_of file reads.Failed = stops.Read file
read_stop_of file reads.TooLong = stops.TooLong file
read_stop_of file reads.Memory = stops.Memory

-- the stop of a report that isn't read
abbrev pub form_stop_of : ReportFault → Stop
form_stop_of (forms.Form place) = stops.Broken (faults.Report place)
form_stop_of forms.Memory = stops.Memory

-- a read of this file failed, or it is too long
abbrev pub StopsReading : Type 0 → CheckedFile → (name : List ℕ) → ShelfView → ShelfView → Stop → Type 0
StopsReading told file name old new (stops.Payment stop) = ⊥
StopsReading told file name old new (stops.Read other) = (other ≡ file) × Rose (old.reads name) (new.reads name)
StopsReading told file name old new (stops.TooLong other) = (other ≡ file) × (told → IsTooLong (old.files name))
StopsReading told file name old new (stops.Broken fault) = ⊥
StopsReading told file name old new stops.Memory = Unit {0}

-- the same of the report, or it leaves the texts of reports
abbrev pub StopsAtReport : Type 0 → (name : List ℕ) → ShelfView → ShelfView → Stop → Type 0
StopsAtReport told name old new (stops.Payment stop) = ⊥
StopsAtReport told name old new (stops.Read file) = (file ≡ Report) × Rose (old.reads name) (new.reads name)
StopsAtReport told name old new (stops.TooLong file) = (file ≡ Report) × (told → IsTooLong (old.files name))
StopsAtReport told name old new (stops.Broken fault) = (fault ≢ faults.Memory) × (told → IsFormBroken (old.files name) fault)
StopsAtReport told name old new stops.Memory = Unit {0}

-- the same of the log beside a report, which has one
abbrev pub StopsAtLog : Type 0 → reports.Report → (name : List ℕ) → ShelfView → ShelfView → Stop → Type 0
StopsAtLog told r name old new (stops.Payment stop) = ⊥
StopsAtLog told r name old new (stops.Read file) = (file ≡ Log) × HasLog r × Rose (old.reads name) (new.reads name)
StopsAtLog told r name old new (stops.TooLong file) = (file ≡ Log) × HasLog r × (told → IsTooLong (old.files name))
StopsAtLog told r name old new (stops.Broken fault) = ⊥
StopsAtLog told r name old new stops.Memory = Unit {0}

-- ---- both

-- a read of the report failed, or it is too long; the same of the log, before which there is a report that has one; or the
-- report leaves the texts of reports
abbrev pub StopsAtEvidence : Type 0 → (report log : List ℕ) → ShelfView → ShelfView → Stop → Type 0
StopsAtEvidence told report log old new (stops.Payment stop) = ⊥
StopsAtEvidence told report log old new (stops.Read Report) = Rose (old.reads report) (new.reads report)
StopsAtEvidence told report log old new (stops.Read Log) = Rose (old.reads log) (new.reads log) × (told → HasLoggedReport (old.files report))
StopsAtEvidence told report log old new (stops.TooLong Report) = told → IsTooLong (old.files report)
StopsAtEvidence told report log old new (stops.TooLong Log) = told → HasLoggedReport (old.files report) × IsTooLong (old.files log)
StopsAtEvidence told report log old new (stops.Broken fault) = (fault ≢ faults.Memory) × (told → IsFormBroken (old.files report) fault)
StopsAtEvidence told report log old new stops.Memory = Unit {0}

-- ---- the judgement

-- the first rule that the report breaks
abbrev pub StopsJudging : PlainPlan → reports.Report → (log : List ℕ) → Stop → Type 0
StopsJudging plan r log (stops.Payment stop) = ⊥
StopsJudging plan r log (stops.Read file) = ⊥
StopsJudging plan r log (stops.TooLong file) = ⊥
StopsJudging plan r log (stops.Broken fault) = (fault ≢ faults.Memory) × IsReportRefusal plan r log fault
StopsJudging plan r log stops.Memory = Unit {0}

-- A file of the payment stops it; a read of the report or of the log failed, those before it being in order; or the files come
-- to a file that is too long, or to a broken rule.
abbrev pub StopsFor : Type 0 → Sources → Payment → (report : List ℕ) → ShelfView → ShelfView → Stop → Type 0
StopsFor told s p report old new (stops.Payment stop) = payments.StopsFor told s p old new stop
StopsFor told s p report old new (stops.Read file) = IsUnread p report file old new × (told → IsReached old.files s p report file)
StopsFor told s p report old new (stops.TooLong file) = told → ComesTo old.files s p report (TooLong file)
StopsFor told s p report old new (stops.Broken fault) = (fault ≢ faults.Memory) × (told → ComesTo old.files s p report (Broken fault))
StopsFor told s p report old new stops.Memory = Unit {0}
