-- What has to be stored before the reader of a request file can run out of memory: the name of an unknown member, or the
-- script of the first recipient.
use Rattle.std.specs.Prelude.{◌≤◌, ◌⊎◌, length, codes, IsOk, IsOkAnd, MatchOption}
use Rattle.fund_base.specs.Parsing.{◌>>=◌}
use Rattle.json_fields.specs.Fields.{object_at, member_at, text_at, hex_at}
use Rattle.json_fields.specs.Memory.{StoresName, StoresList}
use Rattle.segwit_addr.specs.Reading.{decode_of}
use Rattle.serde_json.specs.Data.{Data}
use Rattle.serde_json.specs.Find.{get}
use Rattle.request_text.specs.RequestText.{one_of, amount_at, entry_names, entry_required, known_in, required_in}

-- of an entry that names an address: the address's script, behind the amount
abbrev pub StoresAddress : Data → Data → Type 0
StoresAddress address d = IsOkAnd (text_at (codes "address") address) (λ text. IsOk (amount_at d) × IsOk (decode_of text))

-- of an entry that spells its script: the script, of 1 to 10,000 bytes, behind an amount of at most 21,000,000 bitcoin
abbrev pub StoresScript : Data → Type 0
StoresScript d =
    IsOkAnd (member_at (codes "script") d >>= hex_at (codes "script")) (λ script. (1 ≤ length script) × (length script ≤ 10_000))
    × IsOkAnd (amount_at d) (λ amount. amount ≤ 2_100_000_000_000_000)

-- of an entry of recipients: the name of an unknown member, or a script
abbrev pub StoresRecipient : Data → Type 0
StoresRecipient d =
    IsOk (one_of (get (codes "address") d) (get (codes "script") d))
    × (StoresName (object_at (codes "recipients") entry_names entry_required d)
    ⊎ (IsOk (object_at (codes "recipients") entry_names entry_required d)
    × MatchOption (get (codes "address") d) (StoresScript d) (λ address. StoresAddress address d)))

-- of a request file's JSON value: the name of an unknown member, or what the first recipient has
abbrev pub StoresRequest : Data → Type 0
StoresRequest d =
    StoresName (object_at (codes "root") (known_in d) (required_in d) d)
    ⊎ (IsOk (object_at (codes "root") (known_in d) (required_in d) d)
    × IsOkAnd (member_at (codes "recipients") d) (StoresList (codes "recipients") StoresRecipient))
