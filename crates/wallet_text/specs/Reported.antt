-- How a refusal is reported.
use Rattle.std.specs.Prelude.{ℕ, ◌≡◌, ◌≢◌, List, Result, Ok, Err, string_bytes}
use Rattle.fund_base.specs.Parsing.{YieldsAll}
use Rattle.json_fields.specs.declared.fault.FieldFault.TheVariants as fields
use Rattle.tx_codec.specs.declared.fault.TxFault.TheVariants.{Memory as NoMemory}
use Rattle.wallet_text.specs.PlainWallet.{PlainWallet}
use Rattle.wallet_text.specs.declared.fault.Refusal.{Refusal}
use Rattle.wallet_text.specs.declared.fault.Refusal.TheVariants.{Field, Script, Weight, Tx, Repeat, ParentLater}
use Rattle.wallet_text.specs.declared.fault.WalletFault.{WalletFault}
use Rattle.wallet_text.specs.declared.fault.WalletFault.TheVariants as told

-- the refusal that a fault tells
abbrev pub refusal_of : WalletFault → Refusal
refusal_of told.NotJson = Field fields.NotJson
refusal_of (told.Kind name) = Field (fields.Kind name)
refusal_of (told.Member name) = Field (fields.Member (string_bytes name))
refusal_of (told.Missing name) = Field (fields.Missing name)
refusal_of (told.Script index) = Script index
refusal_of (told.Weight index) = Weight index
refusal_of (told.Tx list index fault) = Tx list index fault
refusal_of (told.Repeat list index) = Repeat list index
refusal_of (told.ParentLater index) = ParentLater index
refusal_of told.Memory = Field fields.Memory

-- What a call returned is what reading gives, unless memory ran out.
abbrev pub Reads : Result PlainWallet WalletFault → Result PlainWallet Refusal → Type 0
Reads (Ok w) reading = reading ≡ Ok w
Reads (Err fault) reading = fault ≢ told.Memory → reading ≡ Err (refusal_of fault)

-- What a part of the reading returned, seen by view, is what reading gives, unless memory ran out.
abbrev pub Gives : {X Y : Type 0} → (X → Y) → Result X Refusal → Result Y Refusal → Type 0
Gives view result reading = YieldsAll (Field fields.Memory) view result reading

-- A transaction is refused for a fault of its own, and not for being out of memory.
abbrev pub HasReason : WalletFault → Type 0
HasReason fault = (list : List ℕ) (index : ℕ) → refusal_of fault ≢ Tx list index NoMemory
