-- What each field of a PSBT must be, and the fault that it has where it isn't (BIP 174 and BIP 370, 'Specification').
use Rattle.std.specs.Prelude.{ℕ, ◌≡◌, ◌≢◌, ◌+◌, ◌^◌, ◌<◌, ◌≤◌, ◌⊎◌, List, [], ◌∷◌, ◌++◌, length, sum_by, All, Any, Contains}
use Rattle.std.specs.List.{flat_map}
use Rattle.std.specs.Int.{w32, to_le_bytes}
use Rattle.fund_base.specs.CompactSize.{compact, IsCut, IsLong}
use Rattle.fund_base.specs.declared.outpoint.OutPoint.{OutPoint}
use Rattle.tx_codec.specs.declared.fault.TxFault.{TxFault}
use Rattle.tx_codec.specs.declared.fault.TxFault.TheVariants as txs
use Rattle.tx_codec.specs.declared.tx.TxIn.{TxIn}
use Rattle.tx_codec.specs.declared.tx.TxOut.{TxOut}
use Rattle.tx_codec.specs.Transaction.{Transaction}
use Rattle.tx_codec.specs.TransactionText.{text_of, output_text, IsTransaction, IsLegacy}
use Rattle.tx_codec.specs.Txid.{txid_of}
use Rattle.psbt_codec.specs.declared.fault.PsbtFault.{PsbtFault}
use Rattle.psbt_codec.specs.declared.fault.PsbtFault.TheVariants as faults
use Rattle.psbt_codec.specs.declared.pairs.Part.{Part}
use Rattle.psbt_codec.specs.declared.pairs.Part.TheVariants.{Global, Input, Output, InputFields, OutputFields}
use Rattle.psbt_codec.specs.Fault.{shown}
use Rattle.psbt_codec.specs.Psbt.{Pair, magic, typed, pair_text, map_text, global_types, input_types, input_field_types, output_field_types, IsOfType, IsPaid, RequiresLock}
use Rattle.tx_laws.specs.Broken.{IsShort, IsNoSize, IsMore}
use Rattle.tx_laws.specs.First.{IsLegacyFault}

-- The fields, in the order of their first places. A key has the pairs before it in its map, the number of bytes since its
-- pair began, and its own size. A value has the type of its key, the same number, and its size. The other fields have no
-- bytes: each is something that the pairs of the map before must hold.
--
-- - Version: a version that is 0 or 2.
-- - Payment: in version 0 an unsigned transaction.
-- - Form: in version 2, of this type in the global map, only right pairs.
-- - Needed: in version 2, of this type, a pair.
-- - Some: in version 2, under this type of the global map, a count that isn't 0.
-- - Unlocked: in version 2, of this input, no pair that asks for a lock time.
-- - Parent: of this input, no other transaction than it spends from.
-- - Worth: in version 2, behind these outputs, a value that keeps their sum in range.
pub data Field : Type 0 where
  Magic : Field
  KeySize : Field
  Key : Part → (earlier : List Pair) → (since size : ℕ) → Field
  ValueSize : Field
  Value : Part → (kind since size : ℕ) → Field
  Version : List Pair → Field
  Payment : List Pair → Field
  Form : (kind : ℕ) → List Pair → Field
  Needed : (kind : ℕ) → List Pair → Field
  Some : (kind : ℕ) → List Pair → Field
  Unlocked : (index : ℕ) → List Pair → Field
  Parent : (index : ℕ) → OutPoint → List Pair → Field
  Worth : (earlier : List TxOut) → (value : ℕ) → Field
  End : Field

-- the types that have a meaning in a map of this part; of the global map in either version
abbrev pub meant : Part → List ℕ
meant Global = global_types
meant Input = input_types
meant Output = []
meant InputFields = input_field_types
meant OutputFields = output_field_types

-- some pair has this key
abbrev pub HasKey : List ℕ → List Pair → Type 0
HasKey key pairs = Any (λ (p : Pair). p.key ≡ key) pairs

-- other bytes than the magic
pub record IsUnmarked (behind : List ℕ) (fault : PsbtFault) : Type 0 where
  pub none : (rest : List ℕ) → behind ≢ magic ++ rest
  pub is : fault ≡ faults.Magic

-- ---- a key

-- The key has more than a type that has a meaning.
pub record IsOverlong (part : Part) (key : List ℕ) : Type 0 where
  pub kind : ℕ
  pub key_data : List ℕ
  pub small : kind < 2 ^ 64
  pub parts : key ≡ compact kind ++ key_data
  pub means : Contains (meant part) kind
  pub some : key_data ≢ []

-- A key at this place that doesn't begin with a type, or isn't one alone where it should; its pair begins at the first.
abbrev pub IsMistyped : Part → (pair place : ℕ) → List ℕ → PsbtFault → Type 0
IsMistyped part pair place key fault =
    (IsCut key × (fault ≡ faults.Field pair))
    ⊎ ((IsLong key × (fault ≡ faults.LongCompact place)) ⊎ (IsOverlong part key × (fault ≡ faults.Field pair)))

-- It is the key of a pair before, or it is another and isn't as a key must be.
abbrev pub IsWrongKey : Part → List Pair → (pair place : ℕ) → List ℕ → PsbtFault → Type 0
IsWrongKey part earlier pair place key fault = (HasKey key earlier × (fault ≡ faults.RepeatKey pair)) ⊎ ((HasKey key earlier → ⊥) × IsMistyped part pair place key fault)

-- so many bytes stand there, and they are no right key of a pair that began so many bytes before
pub record HoldsWrongKey (part : Part) (earlier : List Pair) (since size place : ℕ) (behind : List ℕ) (fault : PsbtFault) : Type 0 where
  pub key : List ℕ
  pub rest : List ℕ
  pub parts : behind ≡ key ++ rest
  pub len : length key ≡ size
  pub pair : ℕ
  pub pair_is : pair + since ≡ place
  pub wrong : IsWrongKey part earlier pair place key fault

-- ---- a value

-- it is the text of a transaction
abbrev pub HoldsWhole : List ℕ → Type 0
HoldsWhole value = (tx : Transaction) × IsTransaction tx × (value ≡ text_of tx)

-- it is the text of an output
abbrev pub HoldsPaid : List ℕ → Type 0
HoldsPaid value = (o : TxOut) × IsPaid o × (value ≡ output_text o)

-- what each type of an input's map in version 2 asks of its value
pub record IsRightField (kind : ℕ) (value : List ℕ) : Type 0 where
  pub whole : kind ≡ 0 → HoldsWhole value
  pub paid : kind ≡ 1 → HoldsPaid value
  pub txid : kind ≡ 14 → length value ≡ 32
  pub index : kind ≡ 15 → length value ≡ 4
  pub sequence : kind ≡ 16 → length value ≡ 4

-- a value that is as its type asks
abbrev pub IsRightValue : Part → ℕ → List ℕ → Type 0
IsRightValue Global kind value = kind ≡ 251 → length value ≡ 4
IsRightValue Input kind value = (kind ≡ 0 → HoldsWhole value) × (kind ≡ 1 → HoldsPaid value)
IsRightValue Output kind value = Unit {0}
IsRightValue InputFields kind value = IsRightField kind value
IsRightValue OutputFields kind value = kind ≡ 3 → length value ≡ 8

-- one that isn't
abbrev pub IsWrongValue : Part → (kind pair : ℕ) → List ℕ → PsbtFault → Type 0
IsWrongValue part kind pair value fault = (IsRightValue part kind value → ⊥) × (fault ≡ faults.Field pair)

-- so many bytes stand there, and they are no right value
pub record HoldsWrongValue (part : Part) (kind since size place : ℕ) (behind : List ℕ) (fault : PsbtFault) : Type 0 where
  pub value : List ℕ
  pub rest : List ℕ
  pub parts : behind ≡ value ++ rest
  pub len : length value ≡ size
  pub pair : ℕ
  pub pair_is : pair + since ≡ place
  pub wrong : IsWrongValue part kind pair value fault

-- ---- what the pairs of a map hold in version 0

-- no pair holds an unsigned transaction
pub record HoldsNone (pairs : List Pair) (fault : PsbtFault) : Type 0 where
  pub none : (value : List ℕ) → Contains pairs (typed 0 value) → ⊥
  pub is : fault ≡ faults.NoUnsigned

-- the value of one isn't a transaction in the legacy form, for this fault
pub record HoldsUnreadable (pairs : List Pair) (fault : PsbtFault) : Type 0 where
  pub value : List ℕ
  pub there : Contains pairs (typed 0 value)
  pub cause : TxFault
  pub unreadable : IsLegacyFault value cause
  pub is : fault ≡ faults.Unsigned cause

-- it is one with a script that isn't empty
pub record HoldsSigned (pairs : List Pair) (fault : PsbtFault) : Type 0 where
  pub tx : Transaction
  pub there : Contains pairs (typed 0 (text_of tx))
  pub legacy : IsLegacy tx
  pub signed : Any (λ (i : TxIn). i.script ≢ []) tx.inputs
  pub is : fault ≡ faults.NotBare

-- ---- what they hold in either version

-- they tell a version that is neither 0 nor 2
pub record TellsOther (pairs : List Pair) (fault : PsbtFault) : Type 0 where
  pub version : ℕ
  pub there : Contains pairs (typed 251 (to_le_bytes w32 version))
  pub small : version < 2 ^ 32
  pub some : version ≢ 0
  pub other : version ≢ 2
  pub is : fault ≡ faults.Version version

-- they hold a transaction that an input of this outpoint doesn't spend from
pub record HoldsOther (index : ℕ) (point : OutPoint) (pairs : List Pair) (fault : PsbtFault) : Type 0 where
  pub tx : Transaction
  pub there : Contains pairs (typed 0 (text_of tx))
  pub whole : IsTransaction tx
  pub other : (txid_of tx ≢ point.txid) ⊎ (length tx.outputs ≤ point.index)
  pub is : fault ≡ faults.WrongParent (shown index)

-- ---- what they hold in version 2

-- a number in CompactSize
abbrev pub HoldsCount : List ℕ → Type 0
HoldsCount value = (n : ℕ) × (n < 2 ^ 64) × (value ≡ compact n)

-- What these types of the global map ask of a value; the unsigned transaction, of type 00, has no right value there.
abbrev pub IsRightGlobal : ℕ → List ℕ → Type 0
IsRightGlobal kind value =
    (((kind ≡ 2) ⊎ (kind ≡ 3)) × (length value ≡ 4)) ⊎ (((kind ≡ 4) ⊎ (kind ≡ 5)) × HoldsCount value)

-- a pair of this type that has key data, or a value that isn't as the type asks
pub record IsMisformed (kind : ℕ) (p : Pair) : Type 0 where
  pub type_is : IsOfType kind p
  pub wrong : p.key ≡ compact kind → IsRightGlobal kind p.value → ⊥

-- the fault of such a pair at this place
abbrev pub form_fault : ℕ → ℕ → PsbtFault → Type 0
form_fault kind pair fault = ((kind ≡ 0) × (fault ≡ faults.Mixed pair)) ⊎ ((kind ≢ 0) × (fault ≡ faults.Field pair))

-- The first of the pairs that is misformed in this type, where the map ends at this place.
pub record HoldsMisformed (kind : ℕ) (pairs : List Pair) (place : ℕ) (fault : PsbtFault) : Type 0 where
  pub before : List Pair
  pub pair : Pair
  pub after : List Pair
  pub parts : pairs ≡ before ++ pair ∷ after
  pub misformed : IsMisformed kind pair
  pub earlier : All (λ (p : Pair). IsMisformed kind p → ⊥) before
  pub start : ℕ
  pub start_is : start + length (map_text pairs) ≡ place
  pub is : form_fault kind (start + length (flat_map pair_text before)) fault

-- no pair has this type
pub record Lacks (kind : ℕ) (pairs : List Pair) (fault : PsbtFault) : Type 0 where
  pub none : (value : List ℕ) → Contains pairs (typed kind value) → ⊥
  pub is : fault ≡ faults.Lacking kind

-- the fault of a count of inputs, or of outputs, that is 0
abbrev pub count_fault : ℕ → PsbtFault → Type 0
count_fault kind fault = ((kind ≡ 4) × (fault ≡ faults.Unsigned txs.NoInputs)) ⊎ ((kind ≡ 5) × (fault ≡ faults.Unsigned txs.NoOutputs))

-- they count none
pub record CountsNone (kind : ℕ) (pairs : List Pair) (fault : PsbtFault) : Type 0 where
  pub there : Contains pairs (typed kind (compact 0))
  pub is : count_fault kind fault

-- they ask for a lock time
pub record IsLocked (index : ℕ) (pairs : List Pair) (fault : PsbtFault) : Type 0 where
  pub lock : RequiresLock pairs
  pub is : fault ≡ faults.RequiredLock (shown index)

-- the value is more than the outputs before leave
pub record IsTooMuch (earlier : List TxOut) (value : ℕ) (fault : PsbtFault) : Type 0 where
  pub more : 2_100_000_000_000_000 < sum_by (λ (o : TxOut). o.value) earlier + value
  pub is : fault ≡ faults.Unsigned (txs.ValueRange (shown (length earlier)))

-- The bytes that are left from a place on don't begin with such a field, and this is the fault.
abbrev pub Breaks : Field → ℕ → List ℕ → PsbtFault → Type 0
Breaks Magic = λ place behind fault. IsUnmarked behind fault
Breaks KeySize = IsNoSize faults.Truncated faults.LongCompact
Breaks (Key part earlier since size) = λ place behind fault. IsShort faults.Truncated size place behind fault ⊎ HoldsWrongKey part earlier since size place behind fault
Breaks ValueSize = IsNoSize faults.Truncated faults.LongCompact
Breaks (Value part kind since size) = λ place behind fault. IsShort faults.Truncated size place behind fault ⊎ HoldsWrongValue part kind since size place behind fault
Breaks (Version pairs) = λ place behind fault. TellsOther pairs fault
Breaks (Payment pairs) = λ place behind fault. HoldsNone pairs fault ⊎ (HoldsUnreadable pairs fault ⊎ HoldsSigned pairs fault)
Breaks (Form kind pairs) = λ place behind fault. HoldsMisformed kind pairs place fault
Breaks (Needed kind pairs) = λ place behind fault. Lacks kind pairs fault
Breaks (Some kind pairs) = λ place behind fault. CountsNone kind pairs fault
Breaks (Unlocked index pairs) = λ place behind fault. IsLocked index pairs fault
Breaks (Parent index point pairs) = λ place behind fault. HoldsOther index point pairs fault
Breaks (Worth earlier value) = λ place behind fault. IsTooMuch earlier value fault
Breaks End = IsMore faults.Trailing
