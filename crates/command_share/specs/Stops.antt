-- Why a payment whose recipients bear the fee stops before it writes or prints.
use Rattle.std.specs.Prelude.{ℕ, List, ◌++◌, codes, ◌≡◌}
use Rattle.std.specs.Fmt.{decimal}
use Rattle.fee_sharing.specs.declared.fault.ShareFault.{ShareFault}
use Rattle.fee_sharing.specs.declared.fault.ShareFault.TheVariants as faults
use Rattle.fund_shelf.specs.Causes.{ShelfView, SinkView}
use Rattle.fund_files.specs.declared.chain.Chain.{Chain}
use Rattle.fund_steps.specs.declared.fault.PlanFault.{PlanFault}
use Rattle.request_text.specs.PlainRequest.{PlainRequest}
use Rattle.command_end.specs.AnswerLines.{IsAnswered}
use Rattle.command_end.specs.Names.{Sources}
use Rattle.command_end.specs.declared.status.Status.{Status}
use Rattle.command_end.specs.declared.status.Status.TheVariants as statuses
use Rattle.command_inputs.specs.Cause.{Cause, Files, Bump, Plan, cause_of}
use Rattle.command_inputs.specs.Inputs.{IsUnread, Reaches}
use Rattle.command_inputs.specs.Names.{Payment}
use Rattle.command_inputs.specs.PlanEnds.{plan_stop_of}
use Rattle.command_inputs.specs.Words.{IsStopped, stop_status}
use Rattle.command_inputs.specs.declared.refusal.Stop.{Stop as PaymentStop}
use Rattle.command_inputs.specs.declared.refusal.Stop.TheVariants as payments
use Rattle.command_share.specs.Inputs.{AreNotShare, AreRefusedFor, AreShareDust, CantBear, KeepsFromSharing}
use Rattle.command_share.specs.Outcome.{Refused, ShareDust, shared}
use Rattle.command_share.specs.declared.stop.Stop.{Stop}
use Rattle.command_share.specs.declared.stop.Stop.TheVariants as stops

-- the stop of one whose coins aren't searched
abbrev pub fault_stop_of : PlanFault → Stop
fault_stop_of fault = stops.AsPayment (plan_stop_of fault)

-- the stop of one whose recipients can't bear their shares
abbrev pub bear_stop_of : ShareFault → Stop
bear_stop_of (faults.ShareDust index) = stops.ShareDust index
bear_stop_of faults.Memory = stops.AsPayment payments.Memory

-- A read of a file failed, those before it being in order, or the files are refused.
abbrev pub StopsAsPayment : Type 0 → Sources → Payment → ShelfView → ShelfView → PaymentStop → Type 0
StopsAsPayment told s p old new (payments.Read file) = IsUnread s p file old new × (told → Reaches old.files s file)
StopsAsPayment told s p old new (payments.Refused refusal) = told → AreRefusedFor old.files s p (cause_of refusal)
StopsAsPayment told s p old new payments.Keep = ⊥
StopsAsPayment told s p old new payments.Memory = Unit {0}

-- so it stops as a payment does; or the request isn't taken; or a recipient can't bear its share
abbrev pub StopsFor : Type 0 → Sources → Payment → ShelfView → ShelfView → Stop → Type 0
StopsFor told s p old new (stops.AsPayment stop) = StopsAsPayment told s p old new stop
StopsFor told s p old new stops.NotShare = told → AreNotShare old.files s p
StopsFor told s p old new (stops.ShareDust index) = told → AreShareDust old.files s p index

-- ---- a request that isn't paid

-- a cause of a plan that keeps the coins from being searched
abbrev pub MeansFault : Chain → PlainRequest → Cause → Type 0
MeansFault k r (Files cause) = ⊥
MeansFault k r (Bump fault) = ⊥
MeansFault k r (Plan fault) = KeepsFromSharing k r fault

-- why the payment of a request stops: for a fault of its plan, to which it comes, or out of memory
abbrev pub StopsAsPlan : Chain → PlainRequest → PaymentStop → Type 0
StopsAsPlan k r (payments.Read file) = ⊥
StopsAsPlan k r (payments.Refused refusal) = (shared k r ≡ Refused (cause_of refusal)) × MeansFault k r (cause_of refusal)
StopsAsPlan k r payments.Keep = ⊥
StopsAsPlan k r payments.Memory = Unit {0}

abbrev pub StopsSharing : Chain → PlainRequest → Stop → Type 0
StopsSharing k r (stops.AsPayment stop) = StopsAsPlan k r stop
StopsSharing k r stops.NotShare = ⊥
StopsSharing k r (stops.ShareDust index) = (shared k r ≡ ShareDust index) × CantBear k r index

-- ---- the answer

-- what the line says behind the word fault where the request isn't taken
abbrev pub not_share_words : List ℕ
not_share_words = codes "input plan NotShare"

-- what it says of the recipient of an index that can't bear its share
abbrev pub share_dust_words : (index : ℕ) → List ℕ
share_dust_words index = codes "input plan ShareDust " ++ decimal index

-- the status of a stop
abbrev pub status_of_stop : Stop → Status
status_of_stop (stops.AsPayment stop) = stop_status stop
status_of_stop stops.NotShare = statuses.Input
status_of_stop (stops.ShareDust index) = statuses.Input

-- the answer to a stop: its status, with its line
abbrev pub IsStoppedWith : Type 0 → Sources → Payment → Stop → SinkView → SinkView → Status → Type 0
IsStoppedWith told s p (stops.AsPayment stop) old new result = IsStopped told s p stop old new result
IsStoppedWith told s p stops.NotShare old new result = IsAnswered told not_share_words statuses.Input old new result
IsStoppedWith told s p (stops.ShareDust index) old new result = IsAnswered told (share_dust_words index) statuses.Input old new result
