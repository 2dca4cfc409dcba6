-- What has to be stored before the reader of a wallet file can run out of memory: the name of an unknown member, or what the
-- first entry of a list is read as.
use Rattle.std.specs.Prelude.{ℕ, ◌≡◌, ◌⊎◌, true, codes, IsOk, IsOkAnd}
use Rattle.fund_base.specs.Parsing.{◌>>=◌}
use Rattle.json_fields.specs.Fields.{object_at, member_at, entries_at, hex_at}
use Rattle.json_fields.specs.Memory.{StoresName, StoresFirst}
use Rattle.serde_json.specs.Data.{Data, no_items}
use Rattle.wallet_text.specs.Parts.{head_at}
use Rattle.wallet_text.specs.WalletText.{watch_names, earlier_names, known_names, required_names, watch_at, has_script_length, change_at, earlier_at}

-- of an entry of scripts: the name of an unknown member, or the script, which has the length of one
abbrev pub StoresScript : Data → Type 0
StoresScript d = StoresName (object_at (codes "scripts") watch_names watch_names d) ⊎ IsOkAnd (watch_at (codes "scripts") d) (λ w. has_script_length w.script ≡ true)

-- of the change entry at this place: the name of an unknown member, or the script of an entry that keeps its rules
abbrev pub StoresChange : ℕ → Data → Type 0
StoresChange count d = StoresName (object_at (codes "change") watch_names watch_names d) ⊎ IsOk (change_at count d)

-- of an entry of earlier: the name of an unknown member, or the bytes, behind the height
abbrev pub StoresEarlier : ℕ → Data → Type 0
StoresEarlier most d = StoresName (object_at (codes "earlier") earlier_names earlier_names d) ⊎ IsOk (earlier_at most d)

-- of an entry of pending: its bytes
abbrev pub StoresPending : Data → Type 0
StoresPending d = IsOk (hex_at (codes "pending") d)

-- of the scripts and the change entry: what the first of all these has
abbrev pub StoresWatched : Data → Type 0
StoresWatched d =
    IsOkAnd (member_at (codes "scripts") d >>= entries_at (codes "scripts")) (λ entries.
    StoresFirst StoresScript entries ⊎ ((entries ≡ no_items) × IsOkAnd (member_at (codes "change") d) (StoresChange 0)))

-- of a wallet file's JSON value: the name of an unknown member, or, behind the height and the hash, what that entry has
abbrev pub StoresWallet : Data → Type 0
StoresWallet d =
    StoresName (object_at (codes "root") known_names required_names d)
    ⊎ (IsOk (object_at (codes "root") known_names required_names d) × IsOk (head_at d) × StoresWatched d)
