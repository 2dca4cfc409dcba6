-- What each field of a transaction must be, and the fault that it has where it isn't (BIP 144, 'Serialization').
use Rattle.std.specs.Prelude.{ℕ, ◌≡◌, ◌≢◌, ◌+◌, ◌^◌, ◌<◌, ◌⊎◌, List, ◌∷◌, ◌++◌, min}
use Rattle.std.specs.Int.{w64, to_le_bytes}
use Rattle.tx_codec.specs.declared.fault.TxFault.{TxFault}
use Rattle.tx_codec.specs.declared.fault.TxFault.TheVariants.{Truncated, LongCompact, ValueRange, NoInputs, NoOutputs, BadFlag, EmptyWitness, Trailing}
use Rattle.tx_laws.specs.Broken.{IsShort, IsNoSize, IsMore}

-- The fields, in the order of their first places. Opening is the marker of the segregated form, or the number of inputs in
-- the legacy form; SomeWitness has no bytes: it is that some witness isn't empty. A value has the number of outputs
-- before it, and the sum of their values.
pub data Field : Type 0 where
  Version : Field
  Opening : Field
  Flag : Field
  InputCount : Field
  Txid : Field
  Index : Field
  InputScriptSize : Field
  InputScript : ℕ → Field
  Sequence : Field
  OutputCount : Field
  Value : (index sum : ℕ) → Field
  OutputScriptSize : Field
  OutputScript : ℕ → Field
  ItemCount : Field
  ItemSize : Field
  Item : ℕ → Field
  SomeWitness : Field
  LockTime : Field
  End : Field

-- the number is 0, which has this fault
pub record IsZero (none : TxFault) (behind : List ℕ) (fault : TxFault) : Type 0 where
  pub rest : List ℕ
  pub parts : behind ≡ 0 ∷ rest
  pub is : fault ≡ none

-- no number above 0 stands there
abbrev pub IsNoCount : TxFault → ℕ → List ℕ → TxFault → Type 0
IsNoCount none place behind fault = IsNoSize Truncated LongCompact place behind fault ⊎ IsZero none behind fault

-- another byte than the flag
pub record IsOtherFlag (behind : List ℕ) (fault : TxFault) : Type 0 where
  pub byte : ℕ
  pub rest : List ℕ
  pub parts : behind ≡ byte ∷ rest
  pub other : byte ≢ 1
  pub is : fault ≡ BadFlag

-- with this value the sum is above 21,000,000 bitcoin
pub record IsOutOfRange (index sum : ℕ) (behind : List ℕ) (fault : TxFault) : Type 0 where
  pub value : ℕ
  pub rest : List ℕ
  pub parts : behind ≡ to_le_bytes w64 value ++ rest
  pub small : value < 2 ^ 64
  pub above : 2_100_000_000_000_000 < sum + value
  pub is : fault ≡ ValueRange (min index 4_294_967_295)

-- The bytes that are left from a place on don't begin with such a field, and this is the fault.
abbrev pub Breaks : Field → ℕ → List ℕ → TxFault → Type 0
Breaks Version = IsShort Truncated 4
Breaks Opening = IsNoSize Truncated LongCompact
Breaks Flag = λ place behind fault. IsShort Truncated 1 place behind fault ⊎ IsOtherFlag behind fault
Breaks InputCount = IsNoCount NoInputs
Breaks Txid = IsShort Truncated 32
Breaks Index = IsShort Truncated 4
Breaks InputScriptSize = IsNoSize Truncated LongCompact
Breaks (InputScript size) = IsShort Truncated size
Breaks Sequence = IsShort Truncated 4
Breaks OutputCount = IsNoCount NoOutputs
Breaks (Value index sum) = λ place behind fault. IsShort Truncated 8 place behind fault ⊎ IsOutOfRange index sum behind fault
Breaks OutputScriptSize = IsNoSize Truncated LongCompact
Breaks (OutputScript size) = IsShort Truncated size
Breaks ItemCount = IsNoSize Truncated LongCompact
Breaks ItemSize = IsNoSize Truncated LongCompact
Breaks (Item size) = IsShort Truncated size
Breaks SomeWitness = λ place behind fault. fault ≡ EmptyWitness
Breaks LockTime = IsShort Truncated 4
Breaks End = IsMore Trailing
