-- The spelling of a partially signed transaction in both versions: BIP 174, 'Specification', has version 0, whose global map
-- holds the unsigned transaction, and BIP 370, 'Specification', has version 2, whose maps tell it field by field.
use Rattle.std.specs.Prelude.{ℕ, ◌≡◌, ◌≢◌, ◌<◌, ◌≤◌, ◌^◌, ◌==◌, ◌⊎◌, ◌↔◌, List, [], ◌∷◌, ◌++◌, length, All, Any, AllPairs, Contains, Option, Some, None, option_map, IfSome, if◌then◌else◌}
use Rattle.std.specs.Int.{w32, w64, to_le_bytes}
use Rattle.std.specs.List.{flat_map, zip, AllZip}
use Rattle.fund_base.specs.CompactSize.{compact, prefixed}
use Rattle.tx_codec.specs.declared.tx.TxIn.{TxIn}
use Rattle.tx_codec.specs.declared.tx.TxOut.{TxOut}
use Rattle.tx_codec.specs.Transaction.{Transaction}
use Rattle.tx_codec.specs.TransactionText.{bare_text, text_of, output_text, IsTransaction, OutputFits}
use Rattle.tx_codec.specs.Txid.{txid_of}
use Rattle.psbt_codec.specs.declared.psbt.Spent.{Spent}
use Rattle.psbt_codec.specs.PartialTransaction.{PartialTransaction}

-- a key and its value
pub record Pair : Type 0 where
  pub key : List ℕ
  pub value : List ℕ

-- "psbt" and FF
abbrev pub magic : List ℕ
magic = 112 ∷ 115 ∷ 98 ∷ 116 ∷ 255 ∷ []

-- the pair of a type: its key is the type in CompactSize, without key data
abbrev pub typed : ℕ → List ℕ → Pair
typed key_type value = record { key = compact key_type; value = value }

-- the text of a pair: the key and the value, each after its length
unfoldable pub pair_text : Pair → List ℕ
pair_text p = prefixed p.key ++ prefixed p.value

-- the text of a map: its pairs, and a byte 00
unfoldable pub map_text : List Pair → List ℕ
map_text pairs = flat_map pair_text pairs ++ 0 ∷ []

-- ---- version 0

-- the global map: type 00 is the unsigned transaction, in the form without marker, flag and witnesses
abbrev pub global_map : Transaction → List Pair
global_map tx = typed 0 (bare_text tx) ∷ []

-- the pair of an input's whole previous transaction, where it is known: type 00
abbrev pub whole_pairs : Option Transaction → List Pair
whole_pairs None = []
whole_pairs (Some whole) = typed 0 (text_of whole) ∷ []

-- the pair of the output that an input spends, where it is known: type 01
abbrev pub paid_pairs : Option TxOut → List Pair
paid_pairs None = []
paid_pairs (Some paid) = typed 1 (output_text paid) ∷ []

-- the map of an input: its pairs in rising order of type
abbrev pub input_map : Spent → List Pair
input_map s = whole_pairs s.whole ++ paid_pairs s.paid

-- the map of an output is empty
abbrev pub output_map : TxOut → List Pair
output_map o = []

-- the one spelling of version 0 that is written: the magic, the global map, a map for each input, a map for each output
unfoldable pub written_whole : PartialTransaction → List ℕ
written_whole p =
    magic
    ++ (map_text (global_map p.tx) ++ (flat_map (λ s. map_text (input_map s)) p.spent ++ flat_map (λ o. map_text (output_map o)) p.tx.outputs))

-- ---- version 2

-- The global map: types 02 to 05 are the transaction's version, its lock time, and the numbers of its inputs and outputs.
-- Type FB is the version of the PSBT.
abbrev pub global_fields : Transaction → List Pair
global_fields tx =
    typed 2 (to_le_bytes w32 tx.version)
    ∷ typed 3 (to_le_bytes w32 tx.locktime)
    ∷ typed 4 (compact (length tx.inputs))
    ∷ typed 5 (compact (length tx.outputs))
    ∷ typed 251 (to_le_bytes w32 2)
    ∷ []

-- the fields of an input: types 0E to 10 are the txid and the index of what it spends, and its sequence
abbrev pub own_fields : TxIn → List Pair
own_fields i = typed 14 i.prev.txid ∷ typed 15 (to_le_bytes w32 i.prev.index) ∷ typed 16 (to_le_bytes w32 i.sequence) ∷ []

-- the map of an input: what is known of the output that it spends, and its fields
abbrev pub input_fields : TxIn × Spent → List Pair
input_fields k = input_map k.1 ++ own_fields k.0

-- the map of an output: types 03 and 04 are its value and its script
abbrev pub output_fields : TxOut → List Pair
output_fields o = typed 3 (to_le_bytes w64 o.value) ∷ typed 4 o.script ∷ []

-- the one spelling of version 2 that is written
unfoldable pub written_fields : PartialTransaction → List ℕ
written_fields p =
    magic
    ++ (map_text (global_fields p.tx) ++ (flat_map (λ k. map_text (input_fields k)) (zip p.tx.inputs p.spent) ++ flat_map (λ o. map_text (output_fields o)) p.tx.outputs))

-- the one spelling of version 2, and that of version 0 under any other number
abbrev pub written : ℕ → PartialTransaction → List ℕ
written version p = if version == 2 then written_fields p else written_whole p

-- ---- what has a spelling

-- an input that isn't signed
pub record IsUnsigned (i : TxIn) : Type 0 where
  pub script : i.script ≡ []
  pub witness : i.witness ≡ []

-- the transaction that an input spends from
pub record IsParent (i : TxIn) (whole : Transaction) : Type 0 where
  pub text : IsTransaction whole
  pub txid : txid_of whole ≡ i.prev.txid
  pub output : i.prev.index < length whole.outputs

-- an output that has a text by itself: it fits its fields, and its value is at most 21,000,000 bitcoin
pub record IsPaid (o : TxOut) : Type 0 where
  pub fits : OutputFits o
  pub money : o.value ≤ 2_100_000_000_000_000

-- what is known of the output that an input spends
pub record IsSpent (i : TxIn) (s : Spent) : Type 0 where
  pub whole : IfSome s.whole (IsParent i)
  pub paid : IfSome s.paid IsPaid

-- An unsigned transaction that has a text, and for each of its inputs what is known of the output that it spends.
pub record IsPsbt (p : PartialTransaction) : Type 0 where
  pub text : IsTransaction p.tx
  pub unsigned : All IsUnsigned p.tx.inputs
  pub spent_len : length p.spent ≡ length p.tx.inputs
  pub spent : All (λ (k : TxIn × Spent). IsSpent k.0 k.1) (zip p.tx.inputs p.spent)

-- ---- what is readable

-- bytes whose number fits a CompactSize
abbrev pub IsString : List ℕ → Type 0
IsString bytes = All (λ b. b < 256) bytes × (length bytes < 2 ^ 64)

-- A key: its type in the shortest CompactSize, and key data. After a type that has a meaning stand no key data.
pub record IsKey (meant : List ℕ) (key : List ℕ) : Type 0 where
  pub kind : ℕ
  pub key_data : List ℕ
  pub kind_fits : kind < 2 ^ 64
  pub parts : key ≡ compact kind ++ key_data
  pub whole : Contains meant kind → key_data ≡ []

-- such a key, and a value
pub record IsPair (meant : List ℕ) (p : Pair) : Type 0 where
  pub key : IsKey meant p.key
  pub key_fits : IsString p.key
  pub value_fits : IsString p.value

-- two pairs that can stand in one map
abbrev pub HaveOtherKeys : Pair → Pair → Type 0
HaveOtherKeys p q = p.key ≢ q.key

-- the pairs of a map in which these types have a meaning: no key stands there twice
pub record IsMap (meant : List ℕ) (pairs : List Pair) : Type 0 where
  pub each : All (IsPair meant) pairs
  pub distinct : AllPairs HaveOtherKeys pairs

-- the types that have a meaning in the global map: the unsigned transaction, and the version
abbrev pub global_types : List ℕ
global_types = 0 ∷ 251 ∷ []

-- the types that have a meaning in an input's map: the whole previous transaction, and the spent output
abbrev pub input_types : List ℕ
input_types = 0 ∷ 1 ∷ []

-- A pair of this type has this value exactly where something is known and the value is its text.
abbrev pub HasKnownPair : {X : Type 0} → List Pair → ℕ → (X → List ℕ) → Option X → Type 0
HasKnownPair pairs kind text known = (value : List ℕ) → Contains pairs (typed kind value) ↔ (option_map text known ≡ Some value)

-- the same, but that a value which the type stands for is told where no pair has it
abbrev pub TellsOr : {X : Type 0} → List Pair → ℕ → (X → List ℕ) → (without told : X) → Type 0
TellsOr pairs kind text without told = HasKnownPair pairs kind text (Some told) ⊎ (HasKnownPair pairs kind text None × (told ≡ without))

-- a pair whose key begins with this type, be there key data or not
abbrev pub IsOfType : ℕ → Pair → Type 0
IsOfType kind p = (key_data : List ℕ) × (p.key ≡ compact kind ++ key_data)

-- the magic, the global map, the inputs' maps and the outputs' maps, one after the other
abbrev pub spelled : List Pair → List (List Pair) → List (List Pair) → List ℕ
spelled global inputs outputs = magic ++ (map_text global ++ (flat_map map_text inputs ++ flat_map map_text outputs))

-- ---- maps of version 0

-- a global map: it has the unsigned transaction, and tells no other version than 0
pub record IsGlobalMap (tx : Transaction) (pairs : List Pair) : Type 0 where
  pub pairs_fit : IsMap global_types pairs
  pub unsigned : HasKnownPair pairs 0 bare_text (Some tx)
  pub version : (value : List ℕ) → Contains pairs (typed 251 value) → value ≡ 0 ∷ 0 ∷ 0 ∷ 0 ∷ []

-- an input's map: it tells what is known of the output that the input spends
pub record IsInputMap (s : Spent) (pairs : List Pair) : Type 0 where
  pub pairs_fit : IsMap input_types pairs
  pub whole : HasKnownPair pairs 0 text_of s.whole
  pub paid : HasKnownPair pairs 1 output_text s.paid

-- an output's map, in which no type has a meaning
abbrev pub IsOutputMap : TxOut → List Pair → Type 0
IsOutputMap o pairs = IsMap [] pairs

-- the maps of a PSBT of version 0
pub record AreMaps (p : PartialTransaction) (global : List Pair) (inputs outputs : List (List Pair)) : Type 0 where
  pub global_is : IsGlobalMap p.tx global
  pub inputs_are : AllZip IsInputMap p.spent inputs
  pub outputs_are : AllZip IsOutputMap p.tx.outputs outputs

-- ---- maps of version 2

-- The types that have a meaning in the global map: beside those of version 0 the transaction's version, its lock time, and
-- the numbers of its inputs and outputs.
abbrev pub global_field_types : List ℕ
global_field_types = 0 ∷ 2 ∷ 3 ∷ 4 ∷ 5 ∷ 251 ∷ []

-- those in an input's map: beside those of version 0 the txid and the index of what it spends, and its sequence
abbrev pub input_field_types : List ℕ
input_field_types = 0 ∷ 1 ∷ 14 ∷ 15 ∷ 16 ∷ []

-- those in an output's map: its value, and its script
abbrev pub output_field_types : List ℕ
output_field_types = 3 ∷ 4 ∷ []

-- A global map: it tells version 2, the transaction's version, its lock time unless that is 0, and how many inputs and
-- outputs it has. It has no unsigned transaction.
pub record IsGlobalFields (tx : Transaction) (pairs : List Pair) : Type 0 where
  pub pairs_fit : IsMap global_field_types pairs
  pub unmixed : (value : List ℕ) → Contains pairs (typed 0 value) → ⊥
  pub version : HasKnownPair pairs 251 (to_le_bytes w32) (Some 2)
  pub tx_version : HasKnownPair pairs 2 (to_le_bytes w32) (Some tx.version)
  pub locktime : TellsOr pairs 3 (to_le_bytes w32) 0 tx.locktime
  pub inputs : HasKnownPair pairs 4 compact (Some (length tx.inputs))
  pub outputs : HasKnownPair pairs 5 compact (Some (length tx.outputs))

-- A pair asks for a lock time of the transaction: type 11 by time, and type 12 by height.
abbrev pub RequiresLock : List Pair → Type 0
RequiresLock pairs = Any (λ (p : Pair). IsOfType 17 p ⊎ IsOfType 18 p) pairs

-- An input's map: it tells what the input spends, its sequence unless that is FFFFFFFF, and what is known of the output that
-- it spends. It asks for no lock time.
pub record IsInputFields (k : TxIn × Spent) (pairs : List Pair) : Type 0 where
  pub pairs_fit : IsMap input_field_types pairs
  pub whole : HasKnownPair pairs 0 text_of k.1.whole
  pub paid : HasKnownPair pairs 1 output_text k.1.paid
  pub txid : HasKnownPair pairs 14 (λ (bytes : List ℕ). bytes) (Some k.0.prev.txid)
  pub index : HasKnownPair pairs 15 (to_le_bytes w32) (Some k.0.prev.index)
  pub sequence : TellsOr pairs 16 (to_le_bytes w32) 4_294_967_295 k.0.sequence
  pub unlocked : RequiresLock pairs → ⊥

-- an output's map: it tells its value and its script
pub record IsOutputFields (o : TxOut) (pairs : List Pair) : Type 0 where
  pub pairs_fit : IsMap output_field_types pairs
  pub value : HasKnownPair pairs 3 (to_le_bytes w64) (Some o.value)
  pub script : HasKnownPair pairs 4 (λ (bytes : List ℕ). bytes) (Some o.script)

-- the maps of a PSBT of version 2
pub record AreFields (p : PartialTransaction) (global : List Pair) (inputs outputs : List (List Pair)) : Type 0 where
  pub global_is : IsGlobalFields p.tx global
  pub inputs_are : AllZip IsInputFields (zip p.tx.inputs p.spent) inputs
  pub outputs_are : AllZip IsOutputFields p.tx.outputs outputs

-- ---- the whole

-- the maps of a PSBT of this version
abbrev pub AreMapsOf : ℕ → PartialTransaction → List Pair → List (List Pair) → List (List Pair) → Type 0
AreMapsOf version p global inputs outputs = ((version ≡ 0) × AreMaps p global inputs outputs) ⊎ ((version ≡ 2) × AreFields p global inputs outputs)

-- The bytes are a PSBT of version 0 or 2 of this transaction and of what is known of the outputs that it spends: they spell
-- a global map, a map for each input and a map for each output. Pairs of other types stand there as they like.
pub record IsReadable (bytes : List ℕ) (p : PartialTransaction) : Type 0 where
  pub version : ℕ
  pub psbt : IsPsbt p
  pub global : List Pair
  pub inputs : List (List Pair)
  pub outputs : List (List Pair)
  pub spelling : bytes ≡ spelled global inputs outputs
  pub maps : AreMapsOf version p global inputs outputs

-- and they are of this version
abbrev pub IsReadableIn : ℕ → List ℕ → PartialTransaction → Type 0
IsReadableIn version bytes p = (r : IsReadable bytes p) × (r.version ≡ version)

-- such bytes, and from this place on others after them
pub record IsFollowed (bytes : List ℕ) (place : ℕ) : Type 0 where
  pub psbt : PartialTransaction
  pub text : List ℕ
  pub rest : List ℕ
  pub readable : IsReadable text psbt
  pub parts : bytes ≡ text ++ rest
  pub place_is : place ≡ length text
  pub some : rest ≢ []
