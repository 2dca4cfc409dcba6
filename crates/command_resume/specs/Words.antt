-- What a kept job's fault says, and its status.
use Rattle.std.specs.Prelude.{ℕ, List, ◌∷◌, ◌++◌, codes}
use Rattle.std.specs.Fmt.{decimal}
use Rattle.command_end.specs.Words.{log_fault_words}
use Rattle.fund_shelf.specs.Causes.{SinkView}
use Rattle.hex.specs.Hex.{encode_lower}
use Rattle.kept_job.specs.declared.fault.KeptFault.{KeptFault}
use Rattle.kept_job.specs.declared.fault.KeptFault.TheVariants.{NoJob, Form, JobElse, Spent, Part, LongLog, Parts, Section, IllFormed, Log, Failed, Memory}
use Rattle.command_end.specs.AnswerLines.{IsAnswered}
use Rattle.command_end.specs.Names.{Sources}
use Rattle.command_end.specs.declared.status.Status.{Status}
use Rattle.command_end.specs.declared.status.Status.TheVariants as statuses
use Rattle.command_inputs.specs.Names.{Payment}
use Rattle.command_inputs.specs.Words as payments
use Rattle.command_resume.specs.declared.stop.Stop.{Stop}
use Rattle.command_resume.specs.declared.stop.Stop.TheVariants as stops

-- behind the word fault; digests are in plain lower-case hex
unfoldable pub kept_words : KeptFault → List ℕ
kept_words NoJob = codes "saved NoJob"
kept_words (Form place) = codes "saved SavedForm " ++ decimal place
kept_words (JobElse kept now) = codes "saved JobElse " ++ (encode_lower kept ++ (32 ∷ encode_lower now))
kept_words Spent = codes "limit tries"
kept_words (Part number) = codes "saved SavedFalse Part " ++ decimal number
kept_words LongLog = codes "limit log"
kept_words (Parts kept now) = codes "saved SavedFalse Parts " ++ (encode_lower kept ++ (32 ∷ encode_lower now))
kept_words (Section i) = codes "saved SavedFalse Section " ++ decimal i
kept_words IllFormed = codes "saved SavedFalse IllFormed"
kept_words (Log i fault) = codes "saved SavedFalse Log " ++ (decimal i ++ (32 ∷ log_fault_words fault))
kept_words Failed = codes "keep"
kept_words Memory = codes "memory"

abbrev pub kept_status : KeptFault → Status
kept_status Spent = statuses.Limit
kept_status LongLog = statuses.Limit
kept_status Failed = statuses.KeepFault
kept_status Memory = statuses.Memory
kept_status _ = statuses.Saved

-- the status of a stop
abbrev pub stop_status : Stop → Status
stop_status (stops.Funding stop) = payments.stop_status stop
stop_status (stops.Kept fault) = kept_status fault

-- what the line of a stop says behind the word fault
abbrev pub stop_words : Sources → Payment → Stop → List ℕ
stop_words s p (stops.Funding stop) = payments.stop_words s p stop
stop_words s p (stops.Kept fault) = kept_words fault

-- the answer to a stop: its status, with its line
abbrev pub IsStopped : Type 0 → Sources → Payment → Stop → SinkView → SinkView → Status → Type 0
IsStopped told s p stop old new result = IsAnswered told (stop_words s p stop) (stop_status stop) old new result
