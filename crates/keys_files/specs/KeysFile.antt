-- A keys file, and why it isn't taken.
use Rattle.std.specs.Prelude.{ℕ, ◌≡◌, ◌≤◌, ◌<◌, List, length, Ok, Err}
use Rattle.fund_shelf.specs.Causes.{Rose, ShelfView}
use Rattle.fund_shelf.specs.declared.pieces.ReadError.{ReadError}
use Rattle.fund_shelf.specs.declared.pieces.ReadError.TheVariants as reads
use Rattle.json_fields.specs.declared.fault.FieldFault.TheVariants as fields
use Rattle.keys_text.specs.KeysText.{keys_of}
use Rattle.keys_text.specs.PlainKeys.{PlainKeys}
use Rattle.keys_text.specs.declared.fault.KeysFault.{KeysFault}
use Rattle.keys_text.specs.declared.fault.KeysFault.TheVariants as faults
use Rattle.keys_files.specs.declared.stop.KeysStop.{KeysStop}
use Rattle.keys_files.specs.declared.stop.KeysStop.TheVariants as stops

-- a keys file has at most 16,777,216 bytes
abbrev pub IsKeysWithin : List ℕ → Type 0
IsKeysWithin file = length file ≤ 16777216

-- the file holds these keys
pub record HasKeys (file : List ℕ) (k : PlainKeys) : Type 0 where
  pub fits : IsKeysWithin file
  pub form : keys_of file ≡ Ok k

-- the file isn't too long, and this is its first fault
pub record HasKeysFault (file : List ℕ) (fault : KeysFault) : Type 0 where
  pub fits : IsKeysWithin file
  pub first : keys_of file ≡ Err fault

-- the stop at a keys file that isn't read whole
abbrev pub read_stop_of : ReadError → KeysStop
read_stop_of reads.Failed = stops.Read
read_stop_of reads.TooLong = stops.TooLong
read_stop_of reads.Memory = stops.Memory

-- the stop at the bytes of a keys file: being out of memory comes from that of the reading alone
abbrev pub fault_stop_of : KeysFault → KeysStop
fault_stop_of (faults.Field fields.Memory) = stops.Memory
fault_stop_of fault = stops.Refused fault

-- why the bytes of a keys file aren't taken: this is their first fault, or there was not enough memory
abbrev pub StopsAtBytes : List ℕ → KeysStop → Type 0
StopsAtBytes bytes stops.Read = ⊥
StopsAtBytes bytes stops.TooLong = ⊥
StopsAtBytes bytes (stops.Refused fault) = keys_of bytes ≡ Err fault
StopsAtBytes bytes stops.Memory = Unit {0}

-- Why the file of this name isn't taken: a read of it failed; it is longer than its limit; this is its first fault; or there
-- was not enough memory.
abbrev pub StopsAtKeys : Type 0 → (name : List ℕ) → ShelfView → ShelfView → KeysStop → Type 0
StopsAtKeys told name old new stops.Read = Rose (old.reads name) (new.reads name)
StopsAtKeys told name old new stops.TooLong = told → 16777216 < length (old.files name)
StopsAtKeys told name old new (stops.Refused fault) = told → HasKeysFault (old.files name) fault
StopsAtKeys told name old new stops.Memory = Unit {0}
