-- A PSBT to which key paths and scripts were added, and why it couldn't be done.
use Rattle.std.specs.Prelude.{ℕ, ◌≡◌, List, Err}
use Rattle.psbt_codec.specs.Fault.{shown}
use Rattle.psbt_codec.specs.PartialTransaction.{PartialTransaction}
use Rattle.psbt_codec.specs.Psbt.{IsReadable, IsReadableIn, Pair, spelled}
use Rattle.psbt_codec.specs.Reading.{read_of}
use Rattle.keys_text.specs.PlainKeys.{PlainKeys}
use Rattle.psbt_keys.specs.declared.fault.KeyFault.{KeyFault}
use Rattle.psbt_keys.specs.declared.fault.KeyFault.TheVariants.{Psbt, Global, Input, Output}
use Rattle.psbt_keys.specs.Extended.{Agrees, AllAgree, AreExtended, IsConflict, IsExtended, IsFirstConflict}
use Rattle.psbt_keys.specs.Origins.{global_due, input_dues, output_dues}

-- The new bytes are a PSBT's with what the keys tell of it: its maps are those of the old bytes, each with the pairs that are
-- due of its script, and the global one with those of the extended public keys.
pub record IsKeyed (k : PlainKeys) (old new : List ℕ) : Type 0 where
  pub psbt : PartialTransaction
  pub readable : IsReadable old psbt
  pub global : List Pair
  pub inputs : List (List Pair)
  pub outputs : List (List Pair)
  pub spelling : new ≡ spelled global inputs outputs
  pub global_is : IsExtended (global_due k) readable.global global
  pub inputs_are : AreExtended (input_dues k psbt.tx.inputs psbt.spent) readable.inputs inputs
  pub outputs_are : AreExtended (output_dues k psbt.tx.outputs) readable.outputs outputs

-- both are a PSBT of the same version, of the same unsigned transaction and of the same that is known of its inputs
pub record IsSamePayment (old new : List ℕ) : Type 0 where
  pub psbt : PartialTransaction
  pub before : IsReadable old psbt
  pub after : IsReadableIn before.version new psbt

-- the first pair that stands in the way: in the global map, else in an input's, else in an output's
abbrev pub IsInTheWay : PlainKeys → PartialTransaction → List Pair → (inputs outputs : List (List Pair)) → KeyFault → Type 0
IsInTheWay k p global inputs outputs (Psbt fault) = ⊥
IsInTheWay k p global inputs outputs (Global number) =
    (place : ℕ) × (kind : ℕ) × (number ≡ shown place) × IsConflict (global_due k) global place kind
IsInTheWay k p global inputs outputs (Input number kind) =
    Agrees (global_due k) global × IsFirstConflict (input_dues k p.tx.inputs p.spent) inputs number kind
IsInTheWay k p global inputs outputs (Output number kind) =
    Agrees (global_due k) global × AllAgree (input_dues k p.tx.inputs p.spent) inputs × IsFirstConflict (output_dues k p.tx.outputs) outputs number kind

-- Why nothing was added: the bytes are no PSBT, for its fault, or a pair stands in the way.
abbrev pub IsKeyFault : PlainKeys → List ℕ → KeyFault → Type 0
IsKeyFault k bytes (Psbt fault) = read_of bytes ≡ Err fault
IsKeyFault k bytes (Global number) = (p : PartialTransaction) × (r : IsReadable bytes p) × IsInTheWay k p r.global r.inputs r.outputs (Global number)
IsKeyFault k bytes (Input number kind) = (p : PartialTransaction) × (r : IsReadable bytes p) × IsInTheWay k p r.global r.inputs r.outputs (Input number kind)
IsKeyFault k bytes (Output number kind) = (p : PartialTransaction) × (r : IsReadable bytes p) × IsInTheWay k p r.global r.inputs r.outputs (Output number kind)
