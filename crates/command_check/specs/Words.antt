-- What is said of a report, and how a report that isn't accepted is answered.
use Rattle.std.specs.Prelude.{ℕ, ◌≡◌, ◌==◌, List, [], ◌∷◌, ◌++◌, codes, filter}
use Rattle.std.specs.Fmt.{decimal}
use Rattle.closing_log.specs.MarkWord.{mark_word}
use Rattle.command_end.specs.Coin.{coin_text}
use Rattle.command_end.specs.Words.{log_fault_words, psbt_fault_words}
use Rattle.fund_shelf.specs.Causes.{SinkView}
use Rattle.fund_report.specs.ReportText.{line}
use Rattle.fund_report.specs.declared.report.Report as reports
use Rattle.fund_report.specs.declared.report.Report.TheVariants.{Funded, NoSelection, Unfinished}
use Rattle.report_check.specs.declared.fault.CheckFault.{CheckFault}
use Rattle.report_check.specs.declared.fault.CheckFault.TheVariants as faults
use Rattle.command_end.specs.AnswerLines.{IsAnswered}
use Rattle.command_end.specs.Names.{Sources}
use Rattle.command_end.specs.declared.status.Status.{Status}
use Rattle.command_end.specs.declared.status.Status.TheVariants as statuses
use Rattle.command_inputs.specs.Names.{Payment}
use Rattle.command_inputs.specs.Words as payments
use Rattle.command_check.specs.Evidence.{evidence_name}
use Rattle.command_check.specs.declared.stop.CheckedFile.{CheckedFile}
use Rattle.command_check.specs.declared.stop.CheckedFile.TheVariants.{Report, Log}
use Rattle.command_check.specs.declared.stop.Stop.{Stop}
use Rattle.command_check.specs.declared.stop.Stop.TheVariants as stops

-- how a fault line names a file that is judged
abbrev pub evidence_word : CheckedFile → List ℕ
evidence_word Report = codes "report"
evidence_word Log = codes "log"

-- a broken rule: the variant's name and its fields, each after one blank
unfoldable pub check_fault_words : CheckFault → List ℕ
check_fault_words (faults.Report place) = codes "Report " ++ decimal place
check_fault_words (faults.Psbt fault) = codes "Psbt " ++ psbt_fault_words fault
check_fault_words (faults.Coin point) = codes "Coin " ++ coin_text point
check_fault_words faults.Pays = codes "Pays"
check_fault_words (faults.LogForm place) = codes "LogForm " ++ decimal place
check_fault_words (faults.Section i) = codes "Section " ++ decimal i
check_fault_words (faults.Log i fault) = codes "Log " ++ (decimal i ++ (32 ∷ log_fault_words fault))
check_fault_words faults.Answer = codes "Answer"
check_fault_words faults.Memory = codes "Memory"

-- the first line of a report, with the line feed that ends it
abbrev pub first_line : reports.Report → List ℕ
first_line (Funded f) = line (codes "funded ") (mark_word f.mark)
first_line (NoSelection tries) = codes "none\n"
first_line (Unfinished tries row stage) = codes "unfinished\n"

-- the bytes begin with this line, and it ends at their first line feed
pub record StartsWithLine (bytes first : List ℕ) : Type 0 where
  pub said : List ℕ
  pub rest : List ℕ
  pub parts : bytes ≡ first ++ rest
  pub ends : first ≡ said ++ codes "\n"
  pub one : filter (λ (b : ℕ). b == 10) said ≡ []

-- what is printed of a report that is accepted
unfoldable pub accepted_text : reports.Report → List ℕ
accepted_text r = codes "accepted\n" ++ first_line r

-- the status of a stop
abbrev pub stop_status : Stop → Status
stop_status (stops.Payment stop) = payments.stop_status stop
stop_status (stops.Read file) = statuses.ReadFault
stop_status (stops.TooLong file) = statuses.Limit
stop_status (stops.Broken fault) = statuses.CheckRefused
stop_status stops.Memory = statuses.Memory

-- what the line of a stop says behind the word fault
abbrev pub stop_words : Sources → Payment → (report : List ℕ) → Stop → List ℕ
stop_words s p report (stops.Payment stop) = payments.stop_words s p stop
stop_words s p report (stops.Read file) = codes "read " ++ evidence_name p report file
stop_words s p report (stops.TooLong file) = codes "limit " ++ evidence_word file
stop_words s p report (stops.Broken fault) = codes "check " ++ check_fault_words fault
stop_words s p report stops.Memory = codes "memory"

-- the answer to a stop: its status, with its line
abbrev pub IsStopped : Type 0 → Sources → Payment → (report : List ℕ) → Stop → SinkView → SinkView → Status → Type 0
IsStopped told s p report stop old new result = IsAnswered told (stop_words s p report stop) (stop_status stop) old new result
