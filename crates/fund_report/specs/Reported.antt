-- What reading a report answers.
use Rattle.std.specs.Prelude.{ℕ, ◌≡◌, ◌+◌, List, length, Result, Ok, Err}
use Rattle.closing_log.specs.Exact.{IsFirstFault}
use Rattle.fund_report.specs.declared.fault.ReportFault.{ReportFault}
use Rattle.fund_report.specs.declared.fault.ReportFault.TheVariants as faults
use Rattle.fund_report.specs.declared.report.Report.{Report}
use Rattle.fund_report.specs.ReportText.{IsReportText}

-- where the bytes that are left begin
pub record IsPlaceOf (bytes : List ℕ) (read : Result Report (List ℕ)) (place : ℕ) : Type 0 where
  pub stop : List ℕ
  pub is : read ≡ Err stop
  pub place_is : place + length stop ≡ length bytes

abbrev pub Agrees : List ℕ → Result Report ReportFault → Result Report (List ℕ) → Type 0
Agrees bytes (Ok report) read = read ≡ Ok report
Agrees bytes (Err faults.Memory) read = Unit {0}
Agrees bytes (Err (faults.Form place)) read = IsPlaceOf bytes read place

-- what is told of bytes that are no report: the place of the first fault
abbrev pub IsReportFault : List ℕ → ReportFault → Type 0
IsReportFault bytes faults.Memory = Unit {0}
IsReportFault bytes (faults.Form place) = IsFirstFault IsReportText bytes place
