-- How a PSBT that isn't made whole with its keys is answered.
use Rattle.std.specs.Prelude.{ℕ, List, ◌++◌, codes}
use Rattle.command_end.specs.Names.{Sources}
use Rattle.command_end.specs.declared.status.Status.{Status}
use Rattle.command_end.specs.declared.status.Status.TheVariants as statuses
use Rattle.keys_files.specs.Words.{key_fault_words, keys_status, keys_words}
use Rattle.command_complete.specs.Words as completing
use Rattle.command_keys.specs.declared.stop.Stop.{Stop}
use Rattle.command_keys.specs.declared.stop.Stop.TheVariants as stops

-- the status of a stop
abbrev pub stop_status : Stop → Status
stop_status (stops.Incomplete stop) = completing.stop_status stop
stop_status (stops.Keys stop) = keys_status stop
stop_status (stops.Unkeyed fault) = statuses.Input
stop_status stops.Memory = statuses.Memory

-- what its line says behind the word fault
abbrev pub stop_words : Sources → (name keys : List ℕ) → Stop → List ℕ
stop_words s name keys (stops.Incomplete stop) = completing.stop_words s name stop
stop_words s name keys (stops.Keys stop) = keys_words keys stop
stop_words s name keys (stops.Unkeyed fault) = codes "input psbt " ++ key_fault_words fault
stop_words s name keys stops.Memory = codes "memory"
