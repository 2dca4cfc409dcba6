-- The transaction that a signed and final PSBT holds (BIP 174, 'Transaction Extractor'): of each input's map type 07 is the final
-- script, and type 08 the final witness.
use Rattle.std.specs.Prelude.{ℕ, ◌≡◌, ◌≢◌, ◌<◌, ◌^◌, ◌⊎◌, ◌↔◌, true, List, [], ◌∷◌, ◌++◌, length, All, IsTrue, Option, Some, None, Err, is_some, unwrap_or}
use Rattle.base64.specs.Engines.{standard}
use Rattle.base64.specs.GeneralPurpose.{encode_of}
use Rattle.fund_base.specs.CompactSize.{counted, prefixed}
use Rattle.fund_base.specs.Cursor.{IsBytes}
use Rattle.tx_codec.specs.declared.tx.TxIn.{TxIn}
use Rattle.tx_codec.specs.Transaction.{Transaction}
use Rattle.tx_codec.specs.TransactionText.{HasWitness}
use Rattle.psbt_codec.specs.declared.fault.PsbtFault.TheVariants.{NotBase64}
use Rattle.psbt_codec.specs.Fault.{shown}
use Rattle.psbt_codec.specs.PartialTransaction.{PartialTransaction}
use Rattle.psbt_codec.specs.Psbt.{Pair, IsReadable, IsString}
use Rattle.psbt_codec.specs.Reading.{read_of, value_of}
use Rattle.signed_psbt.specs.declared.fault.SignedFault.{SignedFault}
use Rattle.signed_psbt.specs.declared.fault.SignedFault.TheVariants.{Psbt, Unsigned, Witness}

-- ---- an input

-- an input's map has a final script or a final witness
abbrev pub HasFinal : List Pair → Type 0
HasFinal pairs = (is_some (value_of 7 pairs) ≡ true) ⊎ (is_some (value_of 8 pairs) ≡ true)

-- a witness whose numbers fit their fields
abbrev pub StackFits : List (List ℕ) → Type 0
StackFits stack = All IsString stack × (length stack < 2 ^ 64)

-- The value is the text of this witness: the number of its byte strings, and each with its length (BIP 174,
-- `PSBT_IN_FINAL_SCRIPTWITNESS`). Where there is no value the witness is empty.
abbrev pub IsStackOf : Option (List ℕ) → List (List ℕ) → Type 0
IsStackOf None stack = stack ≡ []
IsStackOf (Some text) stack = StackFits stack × (text ≡ counted prefixed stack)

-- an input with what its map makes final
pub record IsFinal (given : TxIn) (pairs : List Pair) (made : TxIn) : Type 0 where
  pub prev : made.prev ≡ given.prev
  pub sequence : made.sequence ≡ given.sequence
  pub final : HasFinal pairs
  pub script : made.script ≡ unwrap_or (value_of 7 pairs) []
  pub witness : IsStackOf (value_of 8 pairs) made.witness

-- so each input, by the map at its place
abbrev pub AreFinal : List TxIn → List (List Pair) → List TxIn → Type 0
AreFinal [] [] [] = Unit {0}
AreFinal (i ∷ is) (m ∷ ms) (j ∷ js) = IsFinal i m j × AreFinal is ms js
AreFinal is ms js = ⊥

-- ---- the whole

-- The bytes are a PSBT of a payment whose inputs are all final, and this is the transaction that these make.
pub record IsSignedPsbt (bytes : List ℕ) (tx : Transaction) : Type 0 where
  pub psbt : PartialTransaction
  pub readable : IsReadable bytes psbt
  pub version : tx.version ≡ psbt.tx.version
  pub locktime : tx.locktime ≡ psbt.tx.locktime
  pub outputs : tx.outputs ≡ psbt.tx.outputs
  pub inputs : AreFinal psbt.tx.inputs readable.inputs tx.inputs
  pub form : IsTrue tx.segwit ↔ HasWitness tx

-- ---- faults

-- what is wrong with the map of the input of this index: nothing in it is final, or its final witness is the text of none
abbrev pub IsInputFault : ℕ → List Pair → SignedFault → Type 0
IsInputFault index pairs (Psbt fault) = ⊥
IsInputFault index pairs (Unsigned n) = (n ≡ shown index) × (HasFinal pairs → ⊥)
IsInputFault index pairs (Witness n) = (n ≡ shown index) × HasFinal pairs × ((stack : List (List ℕ)) → IsStackOf (value_of 8 pairs) stack → ⊥)

-- nothing is
abbrev pub CanBeFinal : List Pair → Type 0
CanBeFinal pairs = HasFinal pairs × ((stack : List (List ℕ)) × IsStackOf (value_of 8 pairs) stack)

-- the fault of the first map with which something is wrong
pub record IsFirstFault (maps : List (List Pair)) (fault : SignedFault) : Type 0 where
  pub before : List (List Pair)
  pub pairs : List Pair
  pub behind : List (List Pair)
  pub parts : maps ≡ before ++ pairs ∷ behind
  pub whole : All CanBeFinal before
  pub wrong : IsInputFault (length before) pairs fault

-- Why bytes hold no such transaction: they are no PSBT, for its fault, or an input of it isn't final.
abbrev pub IsSignedFault : List ℕ → SignedFault → Type 0
IsSignedFault bytes (Psbt fault) = read_of bytes ≡ Err fault
IsSignedFault bytes (Unsigned index) = (p : PartialTransaction) × (r : IsReadable bytes p) × IsFirstFault r.inputs (Unsigned index)
IsSignedFault bytes (Witness index) = (p : PartialTransaction) × (r : IsReadable bytes p) × IsFirstFault r.inputs (Witness index)

-- ---- as text

-- the text is base64 of such bytes
pub record IsSignedText (text : List ℕ) (tx : Transaction) : Type 0 where
  pub bytes : List ℕ
  pub are_bytes : IsBytes bytes
  pub text_is : text ≡ encode_of standard bytes
  pub signed : IsSignedPsbt bytes tx

-- why it isn't: it is base64 of no bytes, or of bytes that have this fault
abbrev pub IsSignedTextFault : List ℕ → SignedFault → Type 0
IsSignedTextFault text fault =
    ((fault ≡ Psbt NotBase64) × ((bytes : List ℕ) → IsBytes bytes → text ≢ encode_of standard bytes))
    ⊎ ((bytes : List ℕ) × IsBytes bytes × (text ≡ encode_of standard bytes) × IsSignedFault bytes fault)
