-- Why no summary is made of a workload, and how that is answered.
use Rattle.std.specs.Prelude.{ℕ, List, codes}
use Rattle.fund_shelf.specs.Causes.{SinkView}
use Rattle.command_end.specs.AnswerLines.{IsAnswered, IsWanting}
use Rattle.command_end.specs.declared.status.Status.{Status}
use Rattle.command_end.specs.declared.status.Status.TheVariants as statuses
use Rattle.command_inputs.specs.Cause.{cause_of, status_of_cause}
use Rattle.command_inputs.specs.Words.{refusal_words}
use Rattle.command_inputs.specs.declared.refusal.Stop.{Stop}
use Rattle.command_inputs.specs.declared.refusal.Stop.TheVariants as stops
use Rattle.command_work.specs.Outcome.{IsCollision}
use Rattle.command_work.specs.Statuses.{IsSummary}
use Rattle.command_work.specs.declared.running.Run.{Run}

-- the summary of the run, and its status
abbrev pub IsRun : ℕ → ℕ → Run → Type 0
IsRun number count r = IsSummary number count r.status r.summary.items

-- two of its transactions have one txid, or memory ran out; no file is read, and nothing else is refused
abbrev pub StopsLoad : ℕ → ℕ → Stop → Type 0
StopsLoad number count (stops.Read file) = ⊥
StopsLoad number count (stops.Refused refusal) = IsCollision number count (cause_of refusal)
StopsLoad number count stops.Keep = ⊥
StopsLoad number count stops.Memory = Unit {0}

-- no read of a file failed, and no keeper of jobs
abbrev pub ReadsNone : Stop → Type 0
ReadsNone (stops.Read file) = ⊥
ReadsNone (stops.Refused refusal) = Unit {0}
ReadsNone stops.Keep = ⊥
ReadsNone stops.Memory = Unit {0}

-- the status of a stop; a read and a keeper never stop it (ReadsNone)
abbrev pub stop_status : Stop → Status
stop_status (stops.Read file) = statuses.ReadFault
stop_status (stops.Refused refusal) = status_of_cause (cause_of refusal)
stop_status stops.Keep = statuses.KeepFault
stop_status stops.Memory = statuses.Memory

-- what the line of a stop says behind the word fault
abbrev pub stop_words : Stop → List ℕ
stop_words (stops.Read file) = codes "read"
stop_words (stops.Refused refusal) = refusal_words refusal
stop_words stops.Keep = codes "keep"
stop_words stops.Memory = codes "memory"

-- the answer to a stop: its status, with its line
abbrev pub IsStopped : Type 0 → Stop → SinkView → SinkView → Status → Type 0
IsStopped told (stops.Read file) old new result = ⊥
IsStopped told (stops.Refused refusal) old new result = IsAnswered told (refusal_words refusal) (status_of_cause (cause_of refusal)) old new result
IsStopped told stops.Keep old new result = ⊥
IsStopped told stops.Memory old new result = IsWanting told old new result
