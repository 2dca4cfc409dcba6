-- Why a payment stops before it writes or prints.
use Rattle.fee_bump.specs.declared.fault.BumpFault.{BumpFault}
use Rattle.fee_bump.specs.declared.fault.BumpFault.TheVariants as bumps
use Rattle.fund_shelf.specs.Causes.{ShelfView}
use Rattle.fund_files.specs.declared.stop.Stop.{Stop as FileStop}
use Rattle.fund_files.specs.declared.stop.Stop.TheVariants as files
use Rattle.fund_outside.specs.declared.keeper.KeepFault.{KeepFault}
use Rattle.fund_outside.specs.declared.keeper.KeepFault.TheVariants as keeps
use Rattle.command_end.specs.Names.{Sources}
use Rattle.command_inputs.specs.Cause.{cause_of}
use Rattle.command_inputs.specs.Inputs.{IsUnread, Reaches}
use Rattle.command_inputs.specs.Meant.{AreRefusedFor}
use Rattle.command_inputs.specs.Names.{Payment}
use Rattle.command_inputs.specs.declared.refusal.Refusal.TheVariants as refusals
use Rattle.command_inputs.specs.declared.refusal.Stop.{Stop}
use Rattle.command_inputs.specs.declared.refusal.Stop.TheVariants as stops

-- the stop of a command whose files stop so
abbrev pub lifted : FileStop → Stop
lifted (files.Read file) = stops.Read file
lifted (files.Refused refusal) = stops.Refused (refusals.Files refusal)
lifted files.Memory = stops.Memory

-- the stop of a payment that isn't replaced: being out of memory comes from that of its terms alone
abbrev pub bump_stop_of : BumpFault → Stop
bump_stop_of bumps.Memory = stops.Memory
bump_stop_of fault = stops.Refused (refusals.Bump fault)

-- A read of a file failed, those before it being in order, or the files are refused.
abbrev pub StopsFor : Type 0 → Sources → Payment → ShelfView → ShelfView → Stop → Type 0
StopsFor told s p old new (stops.Read file) = IsUnread s p file old new × (told → Reaches old.files s file)
StopsFor told s p old new (stops.Refused refusal) = told → AreRefusedFor old.files s p (cause_of refusal)
StopsFor told s p old new stops.Keep = ⊥
StopsFor told s p old new stops.Memory = Unit {0}

-- the stop of a keeper that failed or found no memory
abbrev pub of_keeper : KeepFault → Stop
of_keeper keeps.Failed = stops.Keep
of_keeper keeps.Memory = stops.Memory
