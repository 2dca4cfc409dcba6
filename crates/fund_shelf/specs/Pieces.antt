-- Files read piece by piece.
use Rattle.std.specs.Prelude.{ℕ, ◌≡◌, ◌<◌, ◌≤◌, ◌⊎◌, List, length, nat_lt, take}
use Rattle.fund_shelf.specs.declared.shelf.Fault.{Fault}
use Rattle.fund_shelf.specs.declared.shelf.Fault.TheVariants.{Failed, Memory}
use Rattle.fund_shelf.specs.declared.pieces.Front.{Front}
use Rattle.fund_shelf.specs.declared.pieces.ReadError.{ReadError}
use Rattle.fund_shelf.specs.declared.pieces.ReadError.TheVariants.{Failed as ReadFailed, Memory as NoMemory}

-- a read's fault, as the fault of reading the whole file
abbrev pub read_error_of : Fault → ReadError
read_error_of Failed = ReadFailed
read_error_of Memory = NoMemory

-- as many of a file's first bytes as are kept at most, and whether the file has more
pub record IsFront (most : ℕ) (file : List ℕ) (front : Front) : Type 0 where
  pub bytes : front.bytes.items ≡ take most file
  pub longer : front.longer ≡ nat_lt most (length file)

-- Bytes that were read of a file from its first on: all of them, or more than are kept.
pub record IsSeen (most : ℕ) (file bytes : List ℕ) : Type 0 where
  pub front : bytes ≡ take (length bytes) file
  pub enough : (length file ≤ length bytes) ⊎ (most < length bytes)
