-- The statuses of refusals, and that no stop is told as printed whole.
use Rattle.std.proofs.Common.{◌≡◌, ◌++◌, inl, inr, refl}
use Rattle.std.specs.Prelude.{◌⊎◌, codes}
use Rattle.fund_shelf.specs.Causes.{SinkView}
use Rattle.command_inputs.specs.Inputs.{name_of}
use Rattle.command_end.specs.declared.status.Status.{Status}
use Rattle.command_end.specs.declared.status.Status.TheVariants as statuses
use Rattle.command_end.specs.Printed.{TellsWhole}
use Rattle.command_end.specs.Names.{Sources}
use Rattle.command_inputs.specs.Names.{Payment}
use Rattle.fund_steps.specs.declared.fault.PlanFault.{PlanFault}
use Rattle.fund_steps.specs.declared.fault.PlanFault.TheVariants as plans
use Rattle.fund_files.specs.Cause.{FileCause}
use Rattle.fund_files.specs.Cause as files
use Rattle.command_end.proofs.WholeLaws.{answered_stops, file_stops, not_whole, wanting_stops}
use Rattle.command_end.specs.Lines.{status_of_file}
use Rattle.command_inputs.specs.Cause.{Cause, Files, Bump, Plan, cause_of, status_of_cause, status_of_plan}
use Rattle.command_inputs.specs.Words.{IsStopped, refusal_words}
use Rattle.command_inputs.specs.declared.refusal.Stop.{Stop}
use Rattle.command_inputs.specs.declared.refusal.Stop.TheVariants as stops

-- ---- a stop

-- a refusal has one of two statuses
file_status : (cause : FileCause) → (status_of_file cause ≡ statuses.Input) ⊎ (status_of_file cause ≡ statuses.Limit)
file_status (files.TooLong file) = inr refl
file_status (files.BadWallet fault) = inl refl
file_status (files.BadBlocks fault) = inl refl
file_status (files.RepeatCoin coin) = inl refl
file_status files.ManyCoins = inr refl
file_status (files.BadRequest fault) = inl refl

plan_status : (fault : PlanFault) → (status_of_plan fault ≡ statuses.Input) ⊎ (status_of_plan fault ≡ statuses.Limit)
plan_status (plans.Total sum) = inl refl
plan_status (plans.NotEligible point) = inl refl
plan_status (plans.TooMany number n) = inr refl
plan_status plans.Memory = inl refl

pub refusal_status : (cause : Cause) → (status_of_cause cause ≡ statuses.Input) ⊎ (status_of_cause cause ≡ statuses.Limit)
refusal_status (Files cause) = file_status cause
refusal_status (Bump fault) = inl refl
refusal_status (Plan fault) = plan_status fault

-- ---- no stop is told as printed whole

plan_untold : (fault : PlanFault) → TellsWhole (status_of_plan fault) → ⊥
plan_untold (plans.Total sum) whole = whole
plan_untold (plans.NotEligible point) whole = whole
plan_untold (plans.TooMany number n) whole = whole
plan_untold plans.Memory whole = whole

pub cause_untold : (cause : Cause) → TellsWhole (status_of_cause cause) → ⊥
cause_untold (Files cause) whole = file_stops cause whole
cause_untold (Bump fault) whole = whole
cause_untold (Plan fault) whole = plan_untold fault whole

pub stop_untold : (told : Type 0) (s : Sources) (p : Payment) (stop : Stop) (sink sink' : SinkView) (result : Status) → IsStopped told s p stop sink sink' result → TellsWhole result → ⊥
stop_untold told s p (stops.Read file) sink sink' result h whole = answered_stops told (codes "read " ++ name_of s p file) statuses.ReadFault sink sink' result (λ w. w) h whole
stop_untold told s p (stops.Refused refusal) sink sink' result h whole = answered_stops told (refusal_words refusal) (status_of_cause (cause_of refusal)) sink sink' result (cause_untold (cause_of refusal)) h whole
stop_untold told s p stops.Keep sink sink' result h whole = not_whole statuses.KeepFault result (λ w. w) h.0 whole
stop_untold told s p stops.Memory sink sink' result h whole = wanting_stops told sink sink' result h whole
