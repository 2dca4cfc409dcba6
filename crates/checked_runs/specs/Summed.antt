-- The report of which the summary of a workload is.
use Rattle.std.specs.Prelude.{ℕ, List, ◌++◌}
use Rattle.fund_payment.specs.Report.{report_of, reported}
use Rattle.fund_plan.specs.Outcome.{tries_at}
use Rattle.fund_plan.specs.Selection.{PlainFunded}
use Rattle.fund_report.specs.PlainFunded as reports
use Rattle.command_work.specs.Load.{request_of, wallet_of}
use Rattle.command_work.specs.Outline.{outline_of}
use Rattle.command_work.specs.Summary.{digest_line, title_of}
use Rattle.command_work.specs.Outcome.{load_of, load_plan}
use Rattle.command_work.specs.Statuses as workloads

-- the summary of a payment from the workload of a number and a count
abbrev pub IsSummed : (number count : ℕ) → List ℕ → Type 0
IsSummed number count summary = workloads.IsFunded number count summary

-- what is reported of such a payment
abbrev pub reported_for : (number count : ℕ) → PlainFunded → reports.PlainFunded
reported_for number count f = reported (load_of number count).book (request_of number count) (wallet_of number count).change (tries_at (load_plan number count) 100_000) f

-- the bytes of its report
abbrev pub report_for : (number count : ℕ) → PlainFunded → List ℕ
report_for number count f = report_of (load_of number count).book (request_of number count) (wallet_of number count).change (tries_at (load_plan number count) 100_000) f

-- the command's words, the report's lines but for those of the coins and of the PSBT, and the digest of the whole report
abbrev pub lines_for : (number count : ℕ) → PlainFunded → List ℕ
lines_for number count f = title_of number count ++ (outline_of (reported_for number count f) ++ digest_line (report_for number count f))
