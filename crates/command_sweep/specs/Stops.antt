-- Why a sweep stops before it prints.
use Rattle.std.specs.Prelude.{ℕ, List, ◌++◌, codes, ◌≡◌}
use Rattle.std.specs.Fmt.{decimal}
use Rattle.fee_sharing.specs.Sweep.{last_row}
use Rattle.fee_sharing.specs.declared.fault.SweepFault.{SweepFault}
use Rattle.fee_sharing.specs.declared.fault.SweepFault.TheVariants as sweeps
use Rattle.fund_shelf.specs.Causes.{ShelfView, SinkView}
use Rattle.fund_files.specs.declared.chain.Chain.{Chain}
use Rattle.fund_steps.specs.declared.fault.PlanFault.{PlanFault}
use Rattle.fund_steps.specs.declared.fault.PlanFault.TheVariants as plans
use Rattle.request_text.specs.PlainRequest.{PlainRequest}
use Rattle.command_end.specs.AnswerLines.{IsAnswered}
use Rattle.command_end.specs.Names.{Sources}
use Rattle.command_end.specs.declared.status.Status.{Status}
use Rattle.command_end.specs.declared.status.Status.TheVariants as statuses
use Rattle.command_inputs.specs.Cause.{Cause, Files, Bump, Plan, cause_of}
use Rattle.command_inputs.specs.Inputs.{IsUnread, Reaches}
use Rattle.command_inputs.specs.Names.{Payment}
use Rattle.command_inputs.specs.PlanEnds.{plan_stop_of}
use Rattle.command_inputs.specs.Words.{IsStopped, stop_status}
use Rattle.command_inputs.specs.declared.refusal.Stop.{Stop as PaymentStop}
use Rattle.command_inputs.specs.declared.refusal.Stop.TheVariants as payments
use Rattle.command_sweep.specs.Inputs.{AreNotSweep, AreRefusedFor, AreTooHeavy, IsTooHeavy, KeepsFromSweep}
use Rattle.command_sweep.specs.Outcome.{Refused, TooHeavy, swept}
use Rattle.command_sweep.specs.declared.stop.Stop.{Stop}
use Rattle.command_sweep.specs.declared.stop.Stop.TheVariants as stops

-- the stop of a sweep whose coins aren't taken
abbrev pub fault_stop_of : PlanFault → Stop
fault_stop_of fault = stops.AsPayment (plan_stop_of fault)

-- the stop of one whose payment can't be made
abbrev pub sweep_stop_of : PlainRequest → SweepFault → Stop
sweep_stop_of r (sweeps.TooMany n) = fault_stop_of (plans.TooMany (last_row r).number n)
sweep_stop_of r (sweeps.TooHeavy weight) = stops.TooHeavy weight
sweep_stop_of r sweeps.Memory = stops.AsPayment payments.Memory

-- A read of a file failed, those before it being in order, or the files are refused.
abbrev pub StopsAsPayment : Type 0 → Sources → Payment → ShelfView → ShelfView → PaymentStop → Type 0
StopsAsPayment told s p old new (payments.Read file) = IsUnread s p file old new × (told → Reaches old.files s file)
StopsAsPayment told s p old new (payments.Refused refusal) = told → AreRefusedFor old.files s p (cause_of refusal)
StopsAsPayment told s p old new payments.Keep = ⊥
StopsAsPayment told s p old new payments.Memory = Unit {0}

-- so it stops as a payment does; or a sweep doesn't take the request; or the payment is too heavy
abbrev pub StopsFor : Type 0 → Sources → Payment → ShelfView → ShelfView → Stop → Type 0
StopsFor told s p old new (stops.AsPayment stop) = StopsAsPayment told s p old new stop
StopsFor told s p old new stops.NotSweep = told → AreNotSweep old.files s p
StopsFor told s p old new (stops.TooHeavy weight) = told → AreTooHeavy old.files s p weight

-- ---- a request that isn't swept

-- a cause of a plan that keeps the coins from being swept
abbrev pub MeansFault : Chain → PlainRequest → Cause → Type 0
MeansFault k r (Files cause) = ⊥
MeansFault k r (Bump fault) = ⊥
MeansFault k r (Plan fault) = KeepsFromSweep k r fault

-- why the sweep of a request stops: for a fault of its plan, to which it comes, or out of memory
abbrev pub StopsAsPlan : Chain → PlainRequest → PaymentStop → Type 0
StopsAsPlan k r (payments.Read file) = ⊥
StopsAsPlan k r (payments.Refused refusal) = (swept k r ≡ Refused (cause_of refusal)) × MeansFault k r (cause_of refusal)
StopsAsPlan k r payments.Keep = ⊥
StopsAsPlan k r payments.Memory = Unit {0}

abbrev pub StopsSweep : Chain → PlainRequest → Stop → Type 0
StopsSweep k r (stops.AsPayment stop) = StopsAsPlan k r stop
StopsSweep k r stops.NotSweep = ⊥
StopsSweep k r (stops.TooHeavy weight) = (swept k r ≡ TooHeavy weight) × IsTooHeavy k r weight

-- ---- the answer

-- what the line says behind the word fault where a sweep doesn't take the request
abbrev pub not_sweep_words : List ℕ
not_sweep_words = codes "input plan NotSweep"

-- what it says of a payment that is too heavy
abbrev pub too_heavy_words : (weight : ℕ) → List ℕ
too_heavy_words weight = codes "input plan TooHeavy " ++ decimal weight

-- the status of a stop
abbrev pub status_of_stop : Stop → Status
status_of_stop (stops.AsPayment stop) = stop_status stop
status_of_stop stops.NotSweep = statuses.Input
status_of_stop (stops.TooHeavy weight) = statuses.Input

-- the answer to a stop: its status, with its line
abbrev pub IsStoppedWith : Type 0 → Sources → Payment → Stop → SinkView → SinkView → Status → Type 0
IsStoppedWith told s p (stops.AsPayment stop) old new result = IsStopped told s p stop old new result
IsStoppedWith told s p stops.NotSweep old new result = IsAnswered told not_sweep_words statuses.Input old new result
IsStoppedWith told s p (stops.TooHeavy weight) old new result = IsAnswered told (too_heavy_words weight) statuses.Input old new result
