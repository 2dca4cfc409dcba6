-- Why a wide search stops before it writes or prints.
use Rattle.std.specs.Prelude.{ℕ, List, codes, ◌≡◌}
use Rattle.fund_shelf.specs.Causes.{ShelfView, SinkView}
use Rattle.fund_files.specs.declared.chain.Chain.{Chain}
use Rattle.fund_files.specs.declared.stop.Stop.{Stop as FileStop}
use Rattle.fund_steps.specs.declared.fault.PlanFault.{PlanFault}
use Rattle.request_text.specs.PlainRequest.{PlainRequest}
use Rattle.command_end.specs.AnswerLines.{IsAnswered}
use Rattle.command_end.specs.Names.{Sources}
use Rattle.command_end.specs.declared.status.Status.{Status}
use Rattle.command_end.specs.declared.status.Status.TheVariants as statuses
use Rattle.command_inputs.specs.Cause.{cause_of}
use Rattle.command_inputs.specs.Inputs.{IsUnread, Reaches}
use Rattle.command_inputs.specs.Names.{Payment}
use Rattle.command_inputs.specs.PlanEnds.{MeansFault, plan_stop_of}
use Rattle.command_inputs.specs.Stops.{lifted}
use Rattle.command_inputs.specs.Words.{IsStopped, stop_status}
use Rattle.command_inputs.specs.declared.refusal.Stop.{Stop as PaymentStop}
use Rattle.command_inputs.specs.declared.refusal.Stop.TheVariants as payments
use Rattle.command_wide.specs.Inputs.{AreNotWide, AreRefusedFor}
use Rattle.command_wide.specs.Outcome.{Refused, searched}
use Rattle.command_wide.specs.declared.stop.Stop.{Stop}
use Rattle.command_wide.specs.declared.stop.Stop.TheVariants as stops

-- the stop of a wide search whose files stop so
abbrev pub file_stop_of : FileStop → Stop
file_stop_of stop = stops.AsPayment (lifted stop)

-- that of one whose plan isn't made
abbrev pub fault_stop_of : PlanFault → Stop
fault_stop_of fault = stops.AsPayment (plan_stop_of fault)

-- A read of a file failed, those before it being in order, or the files are refused.
abbrev pub StopsAsPayment : Type 0 → Sources → Payment → ShelfView → ShelfView → PaymentStop → Type 0
StopsAsPayment told s p old new (payments.Read file) = IsUnread s p file old new × (told → Reaches old.files s file)
StopsAsPayment told s p old new (payments.Refused refusal) = told → AreRefusedFor old.files s p (cause_of refusal)
StopsAsPayment told s p old new payments.Keep = ⊥
StopsAsPayment told s p old new payments.Memory = Unit {0}

-- so it stops as a payment does, or the wide search doesn't take the request
abbrev pub StopsFor : Type 0 → Sources → Payment → ShelfView → ShelfView → Stop → Type 0
StopsFor told s p old new (stops.AsPayment stop) = StopsAsPayment told s p old new stop
StopsFor told s p old new stops.NotWide = told → AreNotWide old.files s p

-- ---- a plan that isn't made

-- why the search of a request stops: for a fault of its plan, to which it comes, or out of memory
abbrev pub StopsAsPlan : Chain → PlainRequest → PaymentStop → Type 0
StopsAsPlan k r (payments.Read file) = ⊥
StopsAsPlan k r (payments.Refused refusal) = (searched k r ≡ Refused (cause_of refusal)) × MeansFault k r (cause_of refusal)
StopsAsPlan k r payments.Keep = ⊥
StopsAsPlan k r payments.Memory = Unit {0}

abbrev pub StopsPlan : Chain → PlainRequest → Stop → Type 0
StopsPlan k r (stops.AsPayment stop) = StopsAsPlan k r stop
StopsPlan k r stops.NotWide = ⊥

-- ---- the answer

-- what the line says behind the word fault where the wide search doesn't take the request
abbrev pub not_wide_words : List ℕ
not_wide_words = codes "input plan NotWide"

-- the status of a stop
abbrev pub status_of_stop : Stop → Status
status_of_stop (stops.AsPayment stop) = stop_status stop
status_of_stop stops.NotWide = statuses.Input

-- the answer to a stop: its status, with its line
abbrev pub IsStoppedWith : Type 0 → Sources → Payment → Stop → SinkView → SinkView → Status → Type 0
IsStoppedWith told s p (stops.AsPayment stop) old new result = IsStopped told s p stop old new result
IsStoppedWith told s p stops.NotWide old new result = IsAnswered told not_wide_words statuses.Input old new result
