-- What is said of a keys file that isn't taken, and of keys that aren't added.
use Rattle.std.specs.Prelude.{ℕ, List, ◌∷◌, ◌++◌, codes}
use Rattle.std.specs.Fmt.{decimal}
use Rattle.json_fields.specs.declared.fault.FieldFault.{FieldFault}
use Rattle.json_fields.specs.declared.fault.FieldFault.TheVariants as fields
use Rattle.keys_text.specs.declared.fault.KeysFault.{KeysFault}
use Rattle.keys_text.specs.declared.fault.KeysFault.TheVariants as keys_faults
use Rattle.psbt_keys.specs.declared.fault.KeyFault.{KeyFault}
use Rattle.psbt_keys.specs.declared.fault.KeyFault.TheVariants as faults
use Rattle.command_end.specs.Name.{shown_name}
use Rattle.command_end.specs.Words.{psbt_fault_words}
use Rattle.command_end.specs.declared.status.Status.{Status}
use Rattle.command_end.specs.declared.status.Status.TheVariants as statuses
use Rattle.keys_files.specs.declared.stop.KeysStop.{KeysStop}
use Rattle.keys_files.specs.declared.stop.KeysStop.TheVariants as keys_stops

-- ---- faults

-- a fault of the form of a JSON file
unfoldable pub field_fault_words : FieldFault → List ℕ
field_fault_words fields.NotJson = codes "NotJson"
field_fault_words (fields.Kind name) = codes "Kind " ++ shown_name name
field_fault_words (fields.Member name) = codes "Member " ++ shown_name name
field_fault_words (fields.Missing name) = codes "Missing " ++ shown_name name
field_fault_words fields.Memory = codes "Memory"

-- a fault of a keys file
unfoldable pub keys_fault_words : KeysFault → List ℕ
keys_fault_words (keys_faults.Field fault) = field_fault_words fault
keys_fault_words (keys_faults.Script index) = codes "Script " ++ decimal index
keys_fault_words (keys_faults.Redeem index) = codes "Redeem " ++ decimal index
keys_fault_words (keys_faults.Witness index) = codes "Witness " ++ decimal index
keys_fault_words (keys_faults.Internal index) = codes "Internal " ++ decimal index
keys_fault_words (keys_faults.Key index key) = codes "Key " ++ (decimal index ++ (32 ∷ decimal key))
keys_fault_words (keys_faults.RepeatKey index key) = codes "RepeatKey " ++ (decimal index ++ (32 ∷ decimal key))
keys_fault_words (keys_faults.Xpub index) = codes "Xpub " ++ decimal index
keys_fault_words (keys_faults.RepeatXpub index) = codes "RepeatXpub " ++ decimal index

-- What keeps what the keys tell from a PSBT: the PSBT's fault, or the place of the pair in the way. Of a pair of an input or an
-- output its type stands behind the index.
unfoldable pub key_fault_words : KeyFault → List ℕ
key_fault_words (faults.Psbt fault) = psbt_fault_words fault
key_fault_words (faults.Global number) = codes "KeyGlobal " ++ decimal number
key_fault_words (faults.Input index kind) = codes "KeyInput " ++ (decimal index ++ (32 ∷ decimal kind))
key_fault_words (faults.Output index kind) = codes "KeyOutput " ++ (decimal index ++ (32 ∷ decimal kind))

-- ---- a keys file

-- the status of a keys file that isn't taken
abbrev pub keys_status : KeysStop → Status
keys_status keys_stops.Read = statuses.ReadFault
keys_status keys_stops.TooLong = statuses.Limit
keys_status (keys_stops.Refused fault) = statuses.Input
keys_status keys_stops.Memory = statuses.Memory

-- what its line says behind the word fault
abbrev pub keys_words : (name : List ℕ) → KeysStop → List ℕ
keys_words name keys_stops.Read = codes "read " ++ name
keys_words name keys_stops.TooLong = codes "limit keys"
keys_words name (keys_stops.Refused fault) = codes "input keys " ++ keys_fault_words fault
keys_words name keys_stops.Memory = codes "memory"
