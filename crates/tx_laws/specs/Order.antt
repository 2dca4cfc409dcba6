-- Which field of a transaction comes behind which bytes: the order of fields (BIP 144, 'Serialization'). None of it
-- speaks of faults.
use Rattle.std.specs.Prelude.{ℕ, ◌≡◌, ◌≢◌, ◌+◌, ◌^◌, ◌<◌, ◌≤◌, ◌⊎◌, List, [], ◌∷◌, ◌++◌, length, sum_by, All, Any, replicate}
use Rattle.std.specs.Int.{w64, to_le_bytes}
use Rattle.std.specs.List.{flat_map}
use Rattle.fund_base.specs.CompactSize.{compact, prefixed, counted}
use Rattle.fund_base.specs.Cursor.{IsBytes}
use Rattle.tx_codec.specs.declared.tx.TxIn.{TxIn}
use Rattle.tx_codec.specs.declared.tx.TxOut.{TxOut}
use Rattle.tx_codec.specs.Transaction.{Transaction}
use Rattle.tx_codec.specs.TransactionText.{input_text, output_text, text_of, InputFits, OutputFits}
use Rattle.tx_laws.specs.Broken.{FollowsWhole, IsFirst}
use Rattle.tx_laws.specs.Fields.{Field}
use Rattle.tx_laws.specs.Fields.Field.{Version, Opening, Flag, InputCount, Txid, Index, InputScriptSize, InputScript, Sequence, OutputCount, Value, OutputScriptSize, OutputScript, ItemCount, ItemSize, Item, SomeWitness, LockTime, End}

-- ---- an input, an output, a byte string of a witness

-- so many bytes, and a size in CompactSize
pub record IsBeforeScript (fixed size : ℕ) (front : List ℕ) : Type 0 where
  pub head : List ℕ
  pub parts : front ≡ head ++ compact size
  pub len : length head ≡ fixed
  pub small : size < 2 ^ 64

-- so many bytes, and a script behind its size
pub record IsBehindScript (fixed : ℕ) (front : List ℕ) : Type 0 where
  pub head : List ℕ
  pub script : List ℕ
  pub parts : front ≡ head ++ prefixed script
  pub len : length head ≡ fixed
  pub small : length script < 2 ^ 64

-- Behind these bytes of an input comes this field.
abbrev pub InputComes : List ℕ → Field → Type 0
InputComes front Txid = front ≡ []
InputComes front Index = length front ≡ 32
InputComes front InputScriptSize = length front ≡ 36
InputComes front (InputScript size) = IsBeforeScript 36 size front
InputComes front Sequence = IsBehindScript 36 front
InputComes front other = ⊥

-- a value that may stand after others of this sum, and what follows it
pub record IsBehindValue (sum : ℕ) (front tail : List ℕ) : Type 0 where
  pub value : ℕ
  pub parts : front ≡ to_le_bytes w64 value ++ tail
  pub range : sum + value ≤ 2_100_000_000_000_000

-- Behind these bytes of an output, before which so many stand, of this sum, comes this field.
abbrev pub OutputComes : (index sum : ℕ) → List ℕ → Field → Type 0
OutputComes index sum front (Value i s) = (front ≡ []) × (i ≡ index) × (s ≡ sum)
OutputComes index sum front OutputScriptSize = IsBehindValue sum front []
OutputComes index sum front (OutputScript size) = IsBehindValue sum front (compact size) × (size < 2 ^ 64)
OutputComes index sum front other = ⊥

-- Behind these bytes of a byte string of a witness comes this field.
abbrev pub ItemComes : List ℕ → Field → Type 0
ItemComes front ItemSize = front ≡ []
ItemComes front (Item size) = (front ≡ compact size) × (size < 2 ^ 64)
ItemComes front other = ⊥

-- ---- several of them

-- A count, fewer items than it tells, and the bytes of one more.
pub record IsAmong {X : Type 0} (text : X → List ℕ) (AreWhole : List X → Type 0) (ItemHas : List X → List ℕ → Field → Type 0) (front : List ℕ) (field : Field) : Type 0 where
  pub count : ℕ
  pub before : List X
  pub inner : List ℕ
  pub parts : front ≡ compact count ++ (flat_map text before ++ inner)
  pub small : count < 2 ^ 64
  pub few : length before < count
  pub whole : AreWhole before
  pub comes : ItemHas before inner field

-- inputs as they stand before the witnesses
abbrev pub AreInputs : List TxIn → Type 0
AreInputs inputs = All (λ (i : TxIn). InputFits i × (i.witness ≡ [])) inputs

abbrev pub sum_of : List TxOut → ℕ
sum_of outputs = sum_by (λ (o : TxOut). o.value) outputs

-- outputs, of at most 21,000,000 bitcoin in sum
pub record AreOutputs (outputs : List TxOut) : Type 0 where
  pub each : All OutputFits outputs
  pub money : sum_of outputs ≤ 2_100_000_000_000_000

-- byte strings whose number of bytes fits a CompactSize
abbrev pub AreStrings : List (List ℕ) → Type 0
AreStrings strings = All (λ (s : List ℕ). IsBytes s × (length s < 2 ^ 64)) strings

-- Behind these bytes of the inputs, which begin with their number, comes this field. The number has a name of its own in
-- either form.
abbrev pub InputsCome : Field → List ℕ → Field → Type 0
InputsCome count front field = IsFirst count front field ⊎ IsAmong input_text AreInputs (λ before. InputComes) front field

abbrev pub OutputsCome : List ℕ → Field → Type 0
OutputsCome front field = IsFirst OutputCount front field ⊎ IsAmong output_text AreOutputs (λ before. OutputComes (length before) (sum_of before)) front field

-- Behind these bytes of a witness comes this field.
abbrev pub WitnessComes : List ℕ → Field → Type 0
WitnessComes front field = IsFirst ItemCount front field ⊎ IsAmong prefixed AreStrings (λ before. ItemComes) front field

-- the text of a witness
abbrev pub witness_text : List (List ℕ) → List ℕ
witness_text strings = counted prefixed strings

-- witnesses that have a text
abbrev pub AreWitnesses : List (List (List ℕ)) → Type 0
AreWitnesses witnesses = All (λ (w : List (List ℕ)). AreStrings w × (length w < 2 ^ 64)) witnesses

-- fewer witnesses than inputs, and the bytes of one more
pub record IsAmongWitnesses (inputs : ℕ) (front : List ℕ) (field : Field) : Type 0 where
  pub before : List (List (List ℕ))
  pub inner : List ℕ
  pub parts : front ≡ flat_map witness_text before ++ inner
  pub few : length before < inputs
  pub whole : AreWitnesses before
  pub comes : WitnessComes inner field

-- ---- the whole

-- some inputs
pub record AreSomeInputs (inputs : List TxIn) : Type 0 where
  pub some : 0 < length inputs
  pub small : length inputs < 2 ^ 64
  pub each : AreInputs inputs

-- some outputs
pub record AreSomeOutputs (outputs : List TxOut) : Type 0 where
  pub some : 0 < length outputs
  pub small : length outputs < 2 ^ 64
  pub each : AreOutputs outputs

-- The outputs, and what comes behind them.
abbrev pub OutputsThen : (List ℕ → Field → Type 0) → List ℕ → Field → Type 0
OutputsThen Then front field = OutputsCome front field ⊎ FollowsWhole (counted output_text) AreSomeOutputs (λ outputs. Then) front field

-- The inputs, the outputs, and what comes behind them where there are so many inputs.
abbrev pub InputsThen : Field → (ℕ → List ℕ → Field → Type 0) → List ℕ → Field → Type 0
InputsThen count Then front field = InputsCome count front field ⊎ FollowsWhole (counted input_text) AreSomeInputs (λ inputs. OutputsThen (Then (length inputs))) front field

-- so many witnesses, each of them empty
pub record AreNone (inputs : ℕ) (front : List ℕ) (field : Field) : Type 0 where
  pub front_is : front ≡ replicate inputs 0
  pub field_is : field ≡ SomeWitness

-- so many witnesses, of which some isn't empty
pub record AreSome (inputs : ℕ) (front : List ℕ) (field : Field) : Type 0 where
  pub witnesses : List (List (List ℕ))
  pub front_is : front ≡ flat_map witness_text witnesses
  pub count : length witnesses ≡ inputs
  pub whole : AreWitnesses witnesses
  pub some : Any (λ (w : List (List ℕ)). w ≢ []) witnesses
  pub field_is : field ≡ LockTime

-- The witnesses of so many inputs, of which some must not be empty, and the lock time.
abbrev pub WitnessesThen : ℕ → List ℕ → Field → Type 0
WitnessesThen inputs front field = IsAmongWitnesses inputs front field ⊎ (AreNone inputs front field ⊎ AreSome inputs front field)

-- the lock time at once
abbrev pub LockTimeThen : ℕ → List ℕ → Field → Type 0
LockTimeThen inputs = IsFirst LockTime

-- The legacy form behind the version, and the segregated form behind the flag.
abbrev pub LegacyComes : Field → List ℕ → Field → Type 0
LegacyComes count = InputsThen count LockTimeThen

abbrev pub SegregatedComes : List ℕ → Field → Type 0
SegregatedComes = InputsThen InputCount WitnessesThen

-- behind this byte
pub record IsBehindByte (byte : ℕ) (Then : List ℕ → Field → Type 0) (front : List ℕ) (field : Field) : Type 0 where
  pub inner : List ℕ
  pub parts : front ≡ byte ∷ inner
  pub comes : Then inner field

-- Behind a marker 00 come the flag 01 and the segregated form.
abbrev pub MarkedComes : List ℕ → Field → Type 0
MarkedComes front field = IsFirst Flag front field ⊎ IsBehindByte 1 SegregatedComes front field

-- Behind the version come the legacy form, or a marker and what comes behind it.
abbrev pub FormComes : List ℕ → Field → Type 0
FormComes front field = LegacyComes Opening front field ⊎ IsBehindByte 0 MarkedComes front field

abbrev pub IsVersion : List ℕ → Type 0
IsVersion bytes = length bytes ≡ 4

-- Behind these bytes of a transaction comes this field.
abbrev pub TransactionComes : List ℕ → Field → Type 0
TransactionComes front field = IsFirst Version front field ⊎ FollowsWhole (λ (bytes : List ℕ). bytes) IsVersion (λ version. FormComes) front field

-- The same of one in the legacy form, where no marker is looked for.
abbrev pub LegacyTransactionComes : List ℕ → Field → Type 0
LegacyTransactionComes front field = IsFirst Version front field ⊎ FollowsWhole (λ (bytes : List ℕ). bytes) IsVersion (λ version. LegacyComes InputCount) front field

-- Behind a whole transaction comes the end.
abbrev pub WholeComes : (Transaction → Type 0) → (List ℕ → Field → Type 0) → List ℕ → Field → Type 0
WholeComes Is Comes front field = Comes front field ⊎ FollowsWhole text_of Is (λ tx. IsFirst End) front field
