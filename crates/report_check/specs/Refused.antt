-- What refusals mean while a report is judged.
use Rattle.std.specs.Prelude.{ℕ, ◌≡◌, List}
use Rattle.closing_log.specs.Exact.{IsFirstFault}
use Rattle.closing_log.specs.Log.{PlainSection}
use Rattle.fund_report.specs.declared.report.Report.{Report}
use Rattle.search_run.specs.Step.{PlainStep}
use Rattle.report_check.specs.DueSections.{AreRight, IsSectionWrong}
use Rattle.psbt_codec.specs.Text.{HasPsbtFault}
use Rattle.report_check.specs.Proved.{AreProved, HasTries, IsEndedText, IsFirstRefused, tries_place}
use Rattle.report_check.specs.declared.fault.CheckFault.{CheckFault}
use Rattle.report_check.specs.declared.fault.CheckFault.TheVariants.{Report as ReportFault, Psbt, LogForm, Section, Log, Memory}

-- a text is refused for its first fault, or for being out of memory
abbrev pub IsPsbtRefusal : List ℕ → CheckFault → Type 0
IsPsbtRefusal text (Psbt e) = HasPsbtFault text e
IsPsbtRefusal text Memory = Unit {0}
IsPsbtRefusal text _ = ⊥

-- bytes are refused as a log where they leave the texts of logs that come to their end
abbrev pub IsFormRefusal : List ℕ → CheckFault → Type 0
IsFormRefusal bytes (LogForm place) = IsFirstFault IsEndedText bytes place
IsFormRefusal bytes Memory = Unit {0}
IsFormRefusal bytes _ = ⊥

-- sections are refused for the first fault of the first whose letters aren't accepted
abbrev pub IsLogRefusal : List PlainStep → List PlainSection → CheckFault → Type 0
IsLogRefusal steps sections (Log i e) = IsFirstRefused steps sections i e
IsLogRefusal steps sections Memory = Unit {0}
IsLogRefusal steps sections _ = ⊥

-- sections are refused at the first index at which they aren't those that are due beside a report
abbrev pub IsSectionRefusal : List PlainStep → Report → List PlainSection → CheckFault → Type 0
IsSectionRefusal steps r sections (Section i) = IsSectionWrong steps r sections i
IsSectionRefusal steps r sections _ = ⊥

-- what a log breaks first before its answer is looked at
abbrev pub BreaksBefore : List PlainStep → Report → List PlainSection → CheckFault → Type 0
BreaksBefore steps r sections (Section i) = IsSectionWrong steps r sections i
BreaksBefore steps r sections (Log i e) = AreRight steps r sections × IsFirstRefused steps sections i e
BreaksBefore steps r sections (ReportFault place) = AreRight steps r sections × AreProved steps sections × (HasTries r sections → ⊥) × (place ≡ tries_place r)
BreaksBefore steps r sections Memory = Unit {0}
BreaksBefore steps r sections _ = ⊥
