-- What a refusal says, and how a payment that stops is answered.
use Rattle.std.specs.Prelude.{ℕ, List, ◌++◌, codes}
use Rattle.command_end.specs.Words.{bump_fault_words, plan_fault_words}
use Rattle.fund_shelf.specs.Causes.{SinkView}
use Rattle.command_end.specs.AnswerLines.{IsAnswered}
use Rattle.command_end.specs.Lines.{file_refusal_words}
use Rattle.command_end.specs.Names.{Sources}
use Rattle.command_end.specs.declared.status.Status.{Status}
use Rattle.command_end.specs.declared.status.Status.TheVariants as statuses
use Rattle.command_inputs.specs.Cause.{cause_of, status_of_cause}
use Rattle.command_inputs.specs.Inputs.{name_of}
use Rattle.command_inputs.specs.Names.{Payment}
use Rattle.command_inputs.specs.declared.refusal.Refusal.{Refusal}
use Rattle.command_inputs.specs.declared.refusal.Refusal.TheVariants as refusals
use Rattle.command_inputs.specs.declared.refusal.Stop.{Stop}
use Rattle.command_inputs.specs.declared.refusal.Stop.TheVariants as stops

-- what a refusal says behind the word fault
unfoldable pub refusal_words : Refusal → List ℕ
refusal_words (refusals.Files refusal) = file_refusal_words refusal
refusal_words (refusals.Bump fault) = bump_fault_words fault
refusal_words (refusals.Plan fault) = plan_fault_words fault

-- the status of a stop
abbrev pub stop_status : Stop → Status
stop_status (stops.Read file) = statuses.ReadFault
stop_status (stops.Refused refusal) = status_of_cause (cause_of refusal)
stop_status stops.Keep = statuses.KeepFault
stop_status stops.Memory = statuses.Memory

-- what the line of a stop says behind the word fault
abbrev pub stop_words : Sources → Payment → Stop → List ℕ
stop_words s p (stops.Read file) = codes "read " ++ name_of s p file
stop_words s p (stops.Refused refusal) = refusal_words refusal
stop_words s p stops.Keep = codes "keep"
stop_words s p stops.Memory = codes "memory"

-- the answer to a stop: its status, with its line
abbrev pub IsStopped : Type 0 → Sources → Payment → Stop → SinkView → SinkView → Status → Type 0
IsStopped told s p stop old new result = IsAnswered told (stop_words s p stop) (stop_status stop) old new result
