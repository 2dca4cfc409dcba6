-- An entry of `earlier` or `pending`, by what it says and not by how it is read.
use Rattle.std.specs.Prelude.{ℕ, ◌≡◌, ◌≤◌, List, [], ◌∷◌, codes, Some, Result}
use Rattle.fund_base.specs.Parsing.{whole_of}
use Rattle.json_fields.specs.Rules.{HasMembers, AreKnown, IsHexString}
use Rattle.serde_json.specs.Data.{Data, number, unsigned}
use Rattle.serde_json.specs.Find.{get}
use Rattle.tx_codec.specs.Reading.{tx_at}
use Rattle.tx_codec.specs.Transaction.{Transaction}
use Rattle.tx_codec.specs.declared.fault.TxFault.{TxFault}
use Rattle.tx_codec.specs.declared.fault.TxFault.TheVariants.{Trailing}

-- the one whole transaction that the bytes are, or the first fault of them
abbrev pub transaction_of : List ℕ → Result Transaction TxFault
transaction_of bytes = whole_of Trailing (tx_at (record { rest = bytes; place = 0 }))

-- an object of bytes, which hex spells, and a height of at most this
pub record IsEarlierEntry (most : ℕ) (d : Data) (bytes : List ℕ) (height : ℕ) : Type 0 where
  pub members : HasMembers d (λ ms. AreKnown (codes "tx" ∷ codes "height" ∷ []) ms)
  pub spelled : (x : Data) × (get (codes "tx") d ≡ Some x) × IsHexString x bytes
  pub stands : get (codes "height") d ≡ Some (number (unsigned height))
  pub within : height ≤ most
