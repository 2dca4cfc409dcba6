-- Why the command stops before it prints a PSBT.
use Rattle.std.specs.Prelude.{ℕ, List}
use Rattle.fund_shelf.specs.Causes.{ShelfView}
use Rattle.psbt_codec.specs.declared.fault.PsbtFault.TheVariants as psbts
use Rattle.keys_text.specs.PlainKeys.{PlainKeys}
use Rattle.psbt_keys.specs.declared.fault.KeyFault.{KeyFault}
use Rattle.psbt_keys.specs.declared.fault.KeyFault.TheVariants as faults
use Rattle.command_end.specs.Names.{Sources}
use Rattle.command_complete.specs.Made.{line_of}
use Rattle.command_complete.specs.Statuses.{IsPrinted}
use Rattle.command_complete.specs.Stops as completing
use Rattle.keys_files.specs.Keyed.{IsTextFault}
use Rattle.keys_files.specs.KeysFile.{HasKeys, StopsAtKeys}
use Rattle.keys_files.specs.declared.stop.KeysStop.TheVariants as keys_stops
use Rattle.command_keys.specs.declared.stop.Stop.{Stop}
use Rattle.command_keys.specs.declared.stop.Stop.TheVariants as stops

-- the stop where nothing is added: being out of memory comes from that of the adding alone
abbrev pub stop_of_key : KeyFault → Stop
stop_of_key (faults.Psbt psbts.Memory) = stops.Memory
stop_of_key fault = stops.Unkeyed fault

-- a PSBT that was made whole isn't given its keys, for this fault
pub record IsUnkeyed (told : Type 0) (files : List ℕ → List ℕ) (s : Sources) (name keys : List ℕ) (fault : KeyFault) : Type 0 where
  pub whole : List ℕ
  pub printed : IsPrinted told files s name whole
  pub known : PlainKeys
  pub holds : told → HasKeys (files keys) known
  pub fault_is : IsTextFault known (line_of whole) fault

-- The PSBT isn't made whole, and this is why; or it is, and the keys file isn't taken; or it is, and this keeps what the keys tell
-- from being added.
abbrev pub StopsFor : Type 0 → Sources → (name keys : List ℕ) → ShelfView → ShelfView → Stop → Type 0
StopsFor told s name keys old new (stops.Incomplete stop) = completing.StopsFor told s name old new stop
StopsFor told s name keys old new (stops.Keys stop) = ((whole : List ℕ) × IsPrinted told old.files s name whole) × StopsAtKeys told keys old new stop
StopsFor told s name keys old new (stops.Unkeyed fault) = IsUnkeyed told old.files s name keys fault
StopsFor told s name keys old new stops.Memory = Unit {0}

-- The stop tells of a read that failed.
abbrev pub TellsRead : Stop → Type 0
TellsRead (stops.Incomplete stop) = completing.TellsRead stop
TellsRead (stops.Keys keys_stops.Read) = Unit {0}
TellsRead stop = ⊥
