-- What has to be stored before the reader of a keys file can run out of memory: the name of an unknown member, or what the
-- first entry of a list spells first.
use Rattle.std.specs.Prelude.{ℕ, ◌⊎◌, List, codes, IsOk, IsOkAnd}
use Rattle.fund_base.specs.Parsing.{◌>>=◌}
use Rattle.json_fields.specs.Fields.{object_at, member_at, hex_at}
use Rattle.json_fields.specs.Memory.{StoresName, StoresList, StoresOptional}
use Rattle.serde_json.specs.Data.{Data}
use Rattle.serde_json.specs.Find.{get}
use Rattle.keys_text.specs.KeysText.{entry_names, entry_required, field, path_names, root_names, root_required, scripts_at}

-- of a key with its path: the name of an unknown member, or the key
abbrev pub StoresKey : List ℕ → List ℕ → Data → Type 0
StoresKey whole name d = StoresName (object_at whole (path_names name) (path_names name) d) ⊎ IsOk (member_at name d >>= hex_at name)

-- of an entry of scripts: the name of an unknown member, or the script
abbrev pub StoresEntry : Data → Type 0
StoresEntry d = StoresName (object_at (codes "scripts") entry_names entry_required d) ⊎ IsOk (member_at (codes "script") d >>= hex_at (codes "script"))

-- of the whole: the name of an unknown member, the first entry of the scripts, or, behind these, the first of the extended
-- public keys
abbrev pub StoresKeys : Data → Type 0
StoresKeys d =
    StoresName (object_at (codes "root") root_names root_required d)
    ⊎ (IsOk (object_at (codes "root") root_names root_required d)
    × (IsOkAnd (member_at (codes "scripts") d) (StoresList (codes "scripts") StoresEntry)
    ⊎ (IsOk (field (member_at (codes "scripts") d) >>= scripts_at)
    × StoresOptional (StoresList (codes "xpubs") (StoresKey (codes "xpubs") (codes "xpub"))) (get (codes "xpubs") d))))
