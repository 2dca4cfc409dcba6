-- What a fault says of the texts that begin with these bytes.
use Rattle.std.specs.Prelude.{ℕ, ◌≡◌, ◌≢◌, List, [], ◌++◌, Result, Err}
use Rattle.tx_codec.specs.declared.fault.TxFault.{TxFault}
use Rattle.tx_codec.specs.declared.fault.TxFault.TheVariants.{Truncated}
use Rattle.tx_codec.specs.Transaction.{Transaction}
use Rattle.tx_codec.specs.TransactionText.{text_of}

-- the fault that bytes are missing
pub record IsCut (fault : TxFault) : Type 0 where
  pub place : ℕ
  pub is : fault ≡ Truncated place

-- No text that begins with these bytes begins with a transaction.
abbrev pub BeginsNone : (Transaction → Type 0) → List ℕ → Type 0
BeginsNone Is bytes = (more : List ℕ) (tx : Transaction) (rest : List ℕ) → Is tx → bytes ++ more ≢ text_of tx ++ rest

-- The bytes are the text of a transaction, of which a last part is missing.
pub record IsPart (Is : Transaction → Type 0) (bytes : List ℕ) : Type 0 where
  pub tx : Transaction
  pub more : List ℕ
  pub whole : Is tx
  pub parts : bytes ++ more ≡ text_of tx
  pub some : more ≢ []

-- it was refused, since bytes are missing
pub record IsCutOff {X : Type 0} (read : Result X TxFault) : Type 0 where
  pub fault : TxFault
  pub refused : read ≡ Err fault
  pub cut : IsCut fault
