-- Why a payment is refused, without where its words lie in memory; and with which status.
use Rattle.fee_bump.specs.declared.fault.BumpFault.{BumpFault}
use Rattle.fund_steps.specs.declared.fault.PlanFault.{PlanFault}
use Rattle.fund_steps.specs.declared.fault.PlanFault.TheVariants as plans
use Rattle.fund_files.specs.Cause as files
use Rattle.command_end.specs.Lines.{status_of_file}
use Rattle.command_end.specs.declared.status.Status.{Status}
use Rattle.command_end.specs.declared.status.Status.TheVariants as statuses
use Rattle.command_inputs.specs.declared.refusal.Refusal.{Refusal}
use Rattle.command_inputs.specs.declared.refusal.Refusal.TheVariants as refusals

-- a file; or what keeps a payment from being replaced; or the fault of a plan
pub data Cause : Type 0 where
  Files : files.FileCause → Cause
  Bump : BumpFault → Cause
  Plan : PlanFault → Cause

-- the cause of a refusal
abbrev pub cause_of : Refusal → Cause
cause_of (refusals.Files refusal) = Files (files.cause_of refusal)
cause_of (refusals.Bump fault) = Bump fault
cause_of (refusals.Plan fault) = Plan fault

-- the status of a plan's fault
abbrev pub status_of_plan : PlanFault → Status
status_of_plan (plans.TooMany number n) = statuses.Limit
status_of_plan fault = statuses.Input

-- the status of a refusal, by its cause
abbrev pub status_of_cause : Cause → Status
status_of_cause (Files cause) = status_of_file cause
status_of_cause (Bump fault) = statuses.Input
status_of_cause (Plan fault) = status_of_plan fault
