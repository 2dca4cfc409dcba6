-- What has to be stored before a reader can run out of memory.
use Rattle.std.specs.Prelude.{ℕ, ◌≡◌, List, Result, Ok, Err, IsOkAnd, Option, Some, None}
use Rattle.serde_json.specs.Data.{Data, Items, no_items, item}
use Rattle.json_fields.specs.Fields.{entries_at}
use Rattle.json_fields.specs.declared.fault.FieldFault.{FieldFault}
use Rattle.json_fields.specs.declared.fault.FieldFault.TheVariants.{Member}

-- What a call returned, seen by view, is what reading gives, be it a fault.
abbrev pub Exactly : {X Y E : Type 0} → (X → Y) → Result X E → Result Y E → Type 0
Exactly view (Ok x) read = read ≡ Ok (view x)
Exactly view (Err e) read = read ≡ Err e

-- the fault of an unknown member, whose name a file spells: it is stored to be told
abbrev pub StoresName : {A : Type 0} → Result A FieldFault → Type 0
StoresName (Err (Member name)) = Unit {0}
StoresName _ = ⊥

-- a member that is there has something to store
abbrev pub StoresOptional : (Data → Type 0) → Option Data → Type 0
StoresOptional Stores None = ⊥
StoresOptional Stores (Some d) = Stores d

-- the first entry of a list has something to store
abbrev pub StoresFirst : (Data → Type 0) → Items → Type 0
StoresFirst Stores no_items = ⊥
StoresFirst Stores (item d ds) = Stores d

-- a value is a list whose first entry has something to store
abbrev pub StoresList : List ℕ → (Data → Type 0) → Data → Type 0
StoresList name Stores d = IsOkAnd (entries_at name d) (λ entries. StoresFirst Stores entries)
