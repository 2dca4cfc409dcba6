-- Which field of a PSBT comes behind which bytes (BIP 174 and BIP 370, 'Specification'). None of it speaks of faults.
use Rattle.std.specs.Prelude.{ℕ, zero, suc, ◌≡◌, ◌+◌, ◌^◌, ◌<◌, ◌≤◌, ◌⊎◌, List, [], ◌∷◌, ◌++◌, length, sum_by, All, Contains}
use Rattle.std.specs.Int.{w32, w64, to_le_bytes}
use Rattle.std.specs.List.{flat_map}
use Rattle.fund_base.specs.CompactSize.{compact, prefixed}
use Rattle.fund_base.specs.declared.outpoint.OutPoint.{OutPoint}
use Rattle.tx_codec.specs.declared.tx.TxIn.{TxIn}
use Rattle.tx_codec.specs.declared.tx.TxOut.{TxOut}
use Rattle.tx_codec.specs.Transaction.{Transaction}
use Rattle.tx_codec.specs.TransactionText.{text_of, IsTransaction, IsLegacy}
use Rattle.tx_codec.specs.Txid.{txid_of}
use Rattle.psbt_codec.specs.declared.pairs.Part.{Part}
use Rattle.psbt_codec.specs.declared.pairs.Part.TheVariants.{Global, Input, Output, InputFields, OutputFields}
use Rattle.psbt_codec.specs.Psbt.{Pair, magic, typed, pair_text, map_text, IsString, IsKey, IsMap, RequiresLock}
use Rattle.tx_laws.specs.Broken.{FollowsWhole, IsFirst}
use Rattle.psbt_laws.specs.Fields.{Field, meant, HasKey, IsMisformed, IsRightValue}
use Rattle.psbt_laws.specs.Fields.Field.{Magic, KeySize, Key, ValueSize, Value, Version, Payment, Form, Needed, Some, Unlocked, Parent, Worth, End}

-- ---- a pair

-- a key that may stand behind these pairs, of this type
pub record IsNextKey (part : Part) (earlier : List Pair) (key : List ℕ) (kind : ℕ) : Type 0 where
  pub typed : IsKey (meant part) key
  pub kind_is : typed.kind ≡ kind
  pub fits : IsString key
  pub fresh : HasKey key earlier → ⊥

-- behind the size of a key
pub record IsBeforeKey (size : ℕ) (front : List ℕ) : Type 0 where
  pub parts : front ≡ compact size
  pub some : 0 < size
  pub small : size < 2 ^ 64

-- behind a key and the size of its value
pub record IsBeforeValue (part : Part) (earlier : List Pair) (kind size : ℕ) (front : List ℕ) : Type 0 where
  pub key : List ℕ
  pub is : IsNextKey part earlier key kind
  pub parts : front ≡ prefixed key ++ compact size
  pub small : size < 2 ^ 64

-- Behind these bytes of a pair, before which these stand in its map, comes this field.
abbrev pub PairComes : Part → List Pair → List ℕ → Field → Type 0
PairComes part earlier front KeySize = front ≡ []
PairComes part earlier front (Key p e since size) = IsBeforeKey size front × (p ≡ part) × (e ≡ earlier) × (since ≡ length front)
PairComes part earlier front ValueSize = (key : List ℕ) × (kind : ℕ) × IsNextKey part earlier key kind × (front ≡ prefixed key)
PairComes part earlier front (Value p kind since size) = IsBeforeValue part earlier kind size front × (p ≡ part) × (since ≡ length front)
PairComes part earlier front other = ⊥

-- ---- a map

-- the pairs of a map, or the first of them
pub record ArePairs (part : Part) (pairs : List Pair) : Type 0 where
  pub pairs_fit : IsMap (meant part) pairs
  pub values : (kind : ℕ) (value : List ℕ) → kind < 2 ^ 64 → Contains pairs (typed kind value) → IsRightValue part kind value

-- behind some pairs of a map, in the next
pub record MapComes (part : Part) (front : List ℕ) (field : Field) : Type 0 where
  pub before : List Pair
  pub inner : List ℕ
  pub parts : front ≡ flat_map pair_text before ++ inner
  pub whole : ArePairs part before
  pub comes : PairComes part before inner field

-- a map, and what comes behind it
abbrev pub MapThen : Part → (List Pair → List ℕ → Field → Type 0) → List ℕ → Field → Type 0
MapThen part Then front field = MapComes part front field ⊎ FollowsWhole map_text (ArePairs part) Then front field

-- ---- what the pairs of a map must hold, in turn

-- this must hold, and then come others
abbrev pub Tested : Field → Type 0 → (List ℕ → Field → Type 0) → List ℕ → Field → Type 0
Tested d Is Then front field = IsFirst d front field ⊎ (Is × Then front field)

-- a pair of this type must be there, and tells something on which what then comes depends
abbrev pub Told : {X : Type 0} → (kind : ℕ) → (X → List ℕ) → (X → Type 0) → List Pair → (X → List ℕ → Field → Type 0) → List ℕ → Field → Type 0
Told {X} kind text Fits pairs Then front field = IsFirst (Needed kind pairs) front field ⊎ ((x : X) × (Fits x × Contains pairs (typed kind (text x))) × Then x front field)

-- ---- version 0

-- the map of each output, one after the other, and then the end
abbrev pub OutputsCome : List TxOut → List ℕ → Field → Type 0
OutputsCome [] = IsFirst End
OutputsCome (o ∷ outputs) = MapThen Output (λ pairs. OutputsCome outputs)

-- each transaction that the pairs hold is the one that an input of this outpoint spends from
abbrev pub HasParent : OutPoint → List Pair → Type 0
HasParent point pairs = (tx : Transaction) → IsTransaction tx → Contains pairs (typed 0 (text_of tx)) → (txid_of tx ≡ point.txid) × (point.index < length tx.outputs)

-- the map of each input from this index on, and behind each that its pairs hold no other transaction
abbrev pub InputsCome : ℕ → List TxIn → (List ℕ → Field → Type 0) → List ℕ → Field → Type 0
InputsCome index [] Then = Then
InputsCome index (i ∷ inputs) Then = MapThen Input (λ pairs. Tested (Parent index i.prev pairs) (HasParent i.prev pairs) (InputsCome (index + 1) inputs Then))

-- the pairs of a global map hold this unsigned transaction
pub record HasPayment (pairs : List Pair) (tx : Transaction) : Type 0 where
  pub there : Contains pairs (typed 0 (text_of tx))
  pub legacy : IsLegacy tx
  pub unsigned : All (λ (i : TxIn). i.script ≡ []) tx.inputs

-- that the pairs hold one, and the maps of its inputs and outputs
abbrev pub PaymentThen : List Pair → List ℕ → Field → Type 0
PaymentThen pairs front field = IsFirst (Payment pairs) front field ⊎ ((tx : Transaction) × HasPayment pairs tx × InputsCome 0 tx.inputs (OutputsCome tx.outputs) front field)

-- ---- version 2

abbrev pub IsNumber32 : ℕ → Type 0
IsNumber32 n = n < 2 ^ 32

abbrev pub IsNumber64 : ℕ → Type 0
IsNumber64 n = n < 2 ^ 64

-- 32 bytes
abbrev pub IsTxid : List ℕ → Type 0
IsTxid txid = (length txid ≡ 32) × All (λ b. b < 256) txid

-- the map of so many outputs behind these, one after the other, and then the end
abbrev pub OutputFieldsCome : List TxOut → ℕ → List ℕ → Field → Type 0
OutputFieldsCome earlier zero = IsFirst End
OutputFieldsCome earlier (suc n) =
    MapThen OutputFields (λ pairs.
    Told 3 (to_le_bytes w64) IsNumber64 pairs (λ value.
    Told 4 (λ (script : List ℕ). script) IsString pairs (λ script.
    Tested (Worth earlier value) (sum_by (λ (o : TxOut). o.value) earlier + value ≤ 2_100_000_000_000_000) (OutputFieldsCome (earlier ++ record { value = value; script = script } ∷ []) n))))

-- the map of so many inputs from this index on
abbrev pub InputFieldsCome : ℕ → ℕ → (List ℕ → Field → Type 0) → List ℕ → Field → Type 0
InputFieldsCome index zero Then = Then
InputFieldsCome index (suc n) Then =
    MapThen InputFields (λ pairs.
    Told 14 (λ (txid : List ℕ). txid) IsTxid pairs (λ txid.
    Told 15 (to_le_bytes w32) IsNumber32 pairs (λ number.
    Tested (Unlocked index pairs) (RequiresLock pairs → ⊥) (Tested (Parent index (record { txid = txid; index = number }) pairs) (HasParent (record { txid = txid; index = number }) pairs) (InputFieldsCome (index + 1) n Then)))))

-- no pair is misformed in this type
abbrev pub AreFormed : ℕ → List Pair → Type 0
AreFormed kind pairs = All (λ (p : Pair). IsMisformed kind p → ⊥) pairs

-- what the pairs of a global map must hold, and the maps of so many inputs and outputs
abbrev pub CountsThen : List Pair → List ℕ → Field → Type 0
CountsThen pairs =
    Tested (Form 0 pairs) (AreFormed 0 pairs) (Tested (Form 2 pairs) (AreFormed 2 pairs) (Tested (Form 3 pairs) (AreFormed 3 pairs) (Tested (Form 4 pairs) (AreFormed 4 pairs) (Tested (Form 5 pairs) (AreFormed 5 pairs)
    (Told 2 (to_le_bytes w32) IsNumber32 pairs (λ version.
    Told 4 compact IsNumber64 pairs (λ inputs.
    Told 5 compact IsNumber64 pairs (λ outputs.
    Tested (Some 4 pairs) (0 < inputs) (Tested (Some 5 pairs) (0 < outputs) (InputFieldsCome 0 inputs (OutputFieldsCome [] outputs)))))))))))

-- ---- the whole

-- the pairs of a global map tell this version: 0 where none tells one
abbrev pub TellsVersion : List Pair → ℕ → Type 0
TellsVersion pairs n = Contains pairs (typed 251 (to_le_bytes w32 n)) ⊎ (((value : List ℕ) → Contains pairs (typed 251 value) → ⊥) × (n ≡ 0))

-- that the pairs tell version 0 or 2, and what then comes
abbrev pub VersionThen : List Pair → List ℕ → Field → Type 0
VersionThen pairs front field =
    IsFirst (Version pairs) front field
    ⊎ ((TellsVersion pairs 0 × PaymentThen pairs front field) ⊎ (TellsVersion pairs 2 × CountsThen pairs front field))

-- behind the magic
pub record IsBehindMagic (Then : List ℕ → Field → Type 0) (front : List ℕ) (field : Field) : Type 0 where
  pub inner : List ℕ
  pub parts : front ≡ magic ++ inner
  pub comes : Then inner field

-- Behind these bytes of a PSBT comes this field.
abbrev pub PsbtComes : List ℕ → Field → Type 0
PsbtComes front field = IsFirst Magic front field ⊎ IsBehindMagic (MapThen Global VersionThen) front field
