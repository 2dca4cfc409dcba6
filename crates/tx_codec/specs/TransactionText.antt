-- The text of a transaction: the legacy form, and the segregated form of BIP 144, 'Serialization'.
use Rattle.std.specs.Prelude.{ℕ, ◌≡◌, ◌≢◌, ◌≤◌, ◌<◌, ◌^◌, ◌↔◌, false, List, [], ◌∷◌, ◌++◌, length, sum_by, All, Any, IsTrue, if◌then◌else◌}
use Rattle.std.specs.Int.{w32, w64, to_le_bytes}
use Rattle.std.specs.List.{flat_map}
use Rattle.fund_base.specs.CompactSize.{prefixed, counted}
use Rattle.tx_codec.specs.declared.tx.TxIn.{TxIn}
use Rattle.tx_codec.specs.declared.tx.TxOut.{TxOut}
use Rattle.tx_codec.specs.Transaction.{Transaction}

-- an input: the txid and index of what it spends, its script, its sequence
unfoldable pub input_text : TxIn → List ℕ
input_text i = i.prev.txid ++ (to_le_bytes w32 i.prev.index ++ (prefixed i.script ++ to_le_bytes w32 i.sequence))

-- an output: its value, its script
unfoldable pub output_text : TxOut → List ℕ
output_text o = to_le_bytes w64 o.value ++ prefixed o.script

-- the witness of an input: how many byte strings, and each with its length
unfoldable pub stack_text : TxIn → List ℕ
stack_text i = counted prefixed i.witness

-- the legacy form, which is also the segregated one without marker, flag and witnesses
unfoldable pub bare_text : Transaction → List ℕ
bare_text t = to_le_bytes w32 t.version ++ (counted input_text t.inputs ++ (counted output_text t.outputs ++ to_le_bytes w32 t.locktime))

-- the segregated form: marker 00 and flag 01 after the version, the witnesses before the lock time
unfoldable pub segregated_text : Transaction → List ℕ
segregated_text t =
    to_le_bytes w32 t.version ++ (0 ∷ 1 ∷ (counted input_text t.inputs ++ (counted output_text t.outputs ++ (flat_map stack_text t.inputs ++ to_le_bytes w32 t.locktime))))

-- the text of a transaction
abbrev pub text_of : Transaction → List ℕ
text_of t = if t.segwit then segregated_text t else bare_text t

-- some witness isn't empty
abbrev pub HasWitness : Transaction → Type 0
HasWitness t = Any (λ (i : TxIn). i.witness ≢ []) t.inputs

-- an input whose numbers and bytes fit their fields
pub record InputFits (i : TxIn) : Type 0 where
  pub txid_len : length i.prev.txid ≡ 32
  pub txid : All (λ b. b < 256) i.prev.txid
  pub index : i.prev.index < 2 ^ 32
  pub script : All (λ b. b < 256) i.script
  pub script_len : length i.script < 2 ^ 64
  pub sequence : i.sequence < 2 ^ 32
  pub stack : All (λ (item : List ℕ). All (λ b. b < 256) item × (length item < 2 ^ 64)) i.witness
  pub stack_len : length i.witness < 2 ^ 64

-- an output whose numbers and bytes fit their fields
pub record OutputFits (o : TxOut) : Type 0 where
  pub script : All (λ b. b < 256) o.script
  pub script_len : length o.script < 2 ^ 64

-- A transaction that has a text: it has an input and an output, its values are at most 21,000,000
-- bitcoin in sum, and it has the segregated form exactly where some witness isn't empty.
pub record IsTransaction (t : Transaction) : Type 0 where
  pub version : t.version < 2 ^ 32
  pub locktime : t.locktime < 2 ^ 32
  pub inputs : All InputFits t.inputs
  pub inputs_some : 0 < length t.inputs
  pub inputs_len : length t.inputs < 2 ^ 64
  pub outputs : All OutputFits t.outputs
  pub outputs_some : 0 < length t.outputs
  pub outputs_len : length t.outputs < 2 ^ 64
  pub money : sum_by (λ (o : TxOut). o.value) t.outputs ≤ 2_100_000_000_000_000
  pub segregated : IsTrue t.segwit ↔ HasWitness t

-- a transaction in the legacy form
pub record IsLegacy (t : Transaction) : Type 0 where
  pub whole : IsTransaction t
  pub form : t.segwit ≡ false

-- such a transaction, and from this place on other bytes after its text
pub record IsFollowed (Is : Transaction → Type 0) (bytes : List ℕ) (place : ℕ) : Type 0 where
  pub tx : Transaction
  pub rest : List ℕ
  pub whole : Is tx
  pub parts : bytes ≡ text_of tx ++ rest
  pub place_is : place ≡ length (text_of tx)
  pub some : rest ≢ []
