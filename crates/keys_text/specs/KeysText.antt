-- The keys file: the keys that it is, or its first fault.
use Rattle.std.specs.Prelude.{ℕ, ◌&&◌, Bool, List, [], ◌∷◌, length, min, nat_lt, not, position, codes, Option, Some, None, Result, Ok, Err, ⊤, if◌then◌else◌}
use Rattle.std.specs.Option.{ok_or}
use Rattle.std.specs.Result.{result_ok}
use Rattle.hex.specs.Hex.{decode_sized}
use Rattle.serde_json.specs.Data.{Data}
use Rattle.serde_json.specs.Find.{get}
use Rattle.fund_base.specs.Parsing.{◌>>=◌, fault_as}
use Rattle.json_fields.specs.Fields.{value_of, object_at, member_at, optional, text_at, hex_at, entries_at, each_from, is_among, refuse}
use Rattle.json_fields.specs.declared.fault.FieldFault.{FieldFault}
use Rattle.json_fields.specs.declared.fault.FieldFault.TheVariants.{Kind}
use Rattle.keys_text.specs.Entries.{scripts_of}
use Rattle.keys_text.specs.Judging.{fits_internal, fits_key, fits_redeem, fits_witness, has_script_length, is_xpub, repeat_from}
use Rattle.keys_text.specs.Paths.{path_in}
use Rattle.keys_text.specs.PlainKeys.{PlainEntry, PlainKeyPath, PlainKeys, PlainScriptKeys}
use Rattle.keys_text.specs.declared.fault.KeysFault.{KeysFault}
use Rattle.keys_text.specs.declared.fault.KeysFault.TheVariants.{Field, Script, Redeem, Witness, Internal, Key, RepeatKey, Xpub, RepeatXpub}

-- a fault of the form
abbrev pub field : {A : Type 0} → Result A FieldFault → Result A KeysFault
field read = fault_as Field read

-- a place in a list as a fault tells it
abbrev pub told_index : ℕ → ℕ
told_index i = min i 4_294_967_295

-- ---- keys and their paths

-- the path of a key
unfoldable pub path_at : Data → Result (List ℕ) FieldFault
path_at d = do
  text ← text_at (codes "path") d
  ok_or (path_in text) (Kind (codes "path"))

-- bytes of a fixed number in hex
unfoldable pub sized_at : List ℕ → ℕ → Data → Result (List ℕ) FieldFault
sized_at name size d = do
  text ← text_at name d
  ok_or (result_ok (decode_sized text size)) (Kind name)

-- the names of the members, of which the first is the key's
abbrev pub path_names : List ℕ → List (List ℕ)
path_names name = name ∷ codes "fingerprint" ∷ codes "path" ∷ []

-- an object of a key of this name, the fingerprint of its master key, and its path from there
unfoldable pub key_path_at : List ℕ → List ℕ → Data → Result PlainKeyPath FieldFault
key_path_at whole name d = do
  object ← object_at whole (path_names name) (path_names name) d
  k ← member_at name d
  key ← hex_at name k
  f ← member_at (codes "fingerprint") d
  fingerprint ← sized_at (codes "fingerprint") 4 f
  p ← member_at (codes "path") d
  path ← path_at p
  Ok (record { key = key; fingerprint = fingerprint; path = path })

-- a list of at most 1,000 such objects
unfoldable pub key_paths_at : List ℕ → List ℕ → Data → Result (List PlainKeyPath) FieldFault
key_paths_at whole name d = do
  entries ← entries_at whole d
  keys ← each_from (λ _. key_path_at whole name) [] entries
  if nat_lt 1_000 (length keys) then Err (Kind whole) else Ok keys

-- ---- entries

-- bytes that may be left out
unfoldable pub hex_or_none : List ℕ → Data → Result (Option (List ℕ)) FieldFault
hex_or_none name d = optional None (λ m. hex_at name m >>= λ bytes. Ok (Some bytes)) (get name d)

-- an x-only public key of 32 bytes that may be left out (BIP 340)
unfoldable pub internal_at : Data → Result (Option (List ℕ)) FieldFault
internal_at d = optional None (λ m. sized_at (codes "internal") 32 m >>= λ key. Ok (Some key)) (get (codes "internal") d)

-- the members beside the script
unfoldable pub known_at : Data → Result PlainScriptKeys FieldFault
known_at d = do
  redeem ← hex_or_none (codes "redeem") d
  witness ← hex_or_none (codes "witness") d
  internal ← internal_at d
  k ← member_at (codes "keys") d
  keys ← key_paths_at (codes "keys") (codes "pubkey") k
  Ok (record { redeem = redeem; witness = witness; internal = internal; keys = keys })

abbrev pub entry_names : List (List ℕ)
entry_names = codes "script" ∷ codes "redeem" ∷ codes "witness" ∷ codes "internal" ∷ codes "keys" ∷ []

abbrev pub entry_required : List (List ℕ)
entry_required = codes "script" ∷ codes "keys" ∷ []

-- an object of a script and what is known of it
unfoldable pub entry_at : Data → Result PlainEntry FieldFault
entry_at d = do
  object ← object_at (codes "scripts") entry_names entry_required d
  s ← member_at (codes "script") d
  script ← hex_at (codes "script") s
  known ← known_at d
  Ok (record { script = script; known = known })

-- nothing where a test is passed, and else a fault
abbrev pub unless : Bool → KeysFault → Result ⊤ KeysFault
unless passed fault = if passed then Ok tt else Err fault

-- the rules of an entry's keys
unfoldable pub keys_judged : ℕ → PlainScriptKeys → Result ⊤ KeysFault
keys_judged index known = do
  fit ← refuse (λ i. Key (told_index index) (told_index i)) (position (λ (k : PlainKeyPath). not (fits_key known.internal k.key)) known.keys)
  refuse (λ i. RepeatKey (told_index index) (told_index i)) (repeat_from [] known.keys)

-- the rules of an entry at this index, which may be listed before it
unfoldable pub judged : Bool → ℕ → PlainEntry → Result ⊤ KeysFault
judged listed index e = do
  script ← unless (not listed && has_script_length e.script) (Script (told_index index))
  redeem ← unless (fits_redeem e) (Redeem (told_index index))
  witness ← unless (fits_witness e) (Witness (told_index index))
  internal ← unless (fits_internal e) (Internal (told_index index))
  keys_judged index e.known

-- an entry after others
unfoldable pub entry_behind : List PlainEntry → Data → Result PlainEntry KeysFault
entry_behind before d = do
  e ← field (entry_at d)
  kept ← judged (is_among (scripts_of before) e.script) (length before) e
  Ok e

unfoldable pub scripts_at : Data → Result (List PlainEntry) KeysFault
scripts_at d = do
  entries ← field (entries_at (codes "scripts") d)
  each_from entry_behind [] entries

-- ---- extended public keys

-- their rules
unfoldable pub xpubs_judged : List PlainKeyPath → Result ⊤ KeysFault
xpubs_judged xpubs = do
  extended ← refuse (λ i. Xpub (told_index i)) (position (λ (k : PlainKeyPath). not (is_xpub k)) xpubs)
  refuse (λ i. RepeatXpub (told_index i)) (repeat_from [] xpubs)

unfoldable pub xpubs_at : Data → Result (List PlainKeyPath) KeysFault
xpubs_at d = do
  xpubs ← field (key_paths_at (codes "xpubs") (codes "xpub") d)
  kept ← xpubs_judged xpubs
  Ok xpubs

-- ---- the whole

abbrev pub root_names : List (List ℕ)
root_names = codes "scripts" ∷ codes "xpubs" ∷ []

abbrev pub root_required : List (List ℕ)
root_required = codes "scripts" ∷ []

-- the keys that a JSON value is: its scripts, and then its extended public keys
unfoldable pub keys_at : Data → Result PlainKeys KeysFault
keys_at d = do
  object ← field (object_at (codes "root") root_names root_required d)
  s ← field (member_at (codes "scripts") d)
  scripts ← scripts_at s
  xpubs ← optional [] xpubs_at (get (codes "xpubs") d)
  Ok (record { scripts = scripts; xpubs = xpubs })

-- the keys that the bytes of a file are
unfoldable pub keys_of : List ℕ → Result PlainKeys KeysFault
keys_of bytes = do
  d ← field (value_of bytes)
  keys_at d
