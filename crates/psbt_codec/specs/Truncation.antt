-- What a fault says of the bytes that begin with these.
use Rattle.std.specs.Prelude.{ℕ, ◌≡◌, ◌≢◌, ◌⊎◌, List, [], ◌++◌, Result, Err}
use Rattle.psbt_codec.specs.declared.fault.PsbtFault.{PsbtFault}
use Rattle.psbt_codec.specs.declared.fault.PsbtFault.TheVariants.{Magic, Truncated}
use Rattle.psbt_codec.specs.PartialTransaction.{PartialTransaction}
use Rattle.psbt_codec.specs.Psbt.{magic, IsReadable}

-- bytes of a field, or of a map's end, are missing
pub record IsTruncated (fault : PsbtFault) : Type 0 where
  pub place : ℕ
  pub is : fault ≡ Truncated place

-- the bytes are a first part of the magic
pub record IsCutMagic (bytes : List ℕ) (fault : PsbtFault) : Type 0 where
  pub is : fault ≡ Magic
  pub more : List ℕ
  pub parts : bytes ++ more ≡ magic

-- the fault that bytes are missing
abbrev pub IsCut : List ℕ → PsbtFault → Type 0
IsCut bytes fault = IsTruncated fault ⊎ IsCutMagic bytes fault

-- No bytes that begin with these are a PSBT.
abbrev pub BeginsNone : List ℕ → Type 0
BeginsNone bytes = (more : List ℕ) (p : PartialTransaction) → IsReadable (bytes ++ more) p → ⊥

-- The bytes are those of a PSBT, of which a last part is missing.
pub record IsPart (bytes : List ℕ) : Type 0 where
  pub psbt : PartialTransaction
  pub more : List ℕ
  pub whole : IsReadable (bytes ++ more) psbt
  pub some : more ≢ []

-- they were refused, since bytes are missing
pub record IsCutOff (bytes : List ℕ) (read : Result PartialTransaction PsbtFault) : Type 0 where
  pub fault : PsbtFault
  pub refused : read ≡ Err fault
  pub cut : IsCut bytes fault
