-- Which rule of addresses a text breaks first, in the words of the text (Bitcoin developer reference, 'Base58Check').
use Rattle.std.specs.Prelude.{ℕ, ◌≡◌, ◌≢◌, ◌<◌, List, ◌++◌, map, length, slice_index, All, Any, Contains}
use Rattle.fund_base.specs.Cursor.{IsBytes}
use Rattle.base58_addr.specs.Address.{checksum_of, sealed}
use Rattle.base58_addr.specs.Base58.{alphabet, letter_of, text_of}
use Rattle.base58_addr.specs.Rebasing.{rebased}
use Rattle.base58_addr.specs.declared.fault.Base58Fault.{Base58Fault}
use Rattle.base58_addr.specs.declared.fault.Base58Fault.TheVariants.{Letter, Length, Checksum, Version, Memory}

-- It is of letters, and its values write a number that with the leading zeros has another length than 25 bytes.
pub record IsMissized (text : List ℕ) : Type 0 where
  pub values : List ℕ
  pub spelling : text ≡ map letter_of values
  pub small : All (λ v. v < 58) values
  pub other : length (rebased 58 256 values) ≢ 25

-- it stands for a version and a hash, and four bytes after them that aren't their checksum
pub record IsUnsealed (text : List ℕ) : Type 0 where
  pub payload : List ℕ
  pub last : List ℕ
  pub spelling : text ≡ text_of (payload ++ last)
  pub fit : IsBytes (payload ++ last)
  pub size : length payload ≡ 21
  pub four : length last ≡ 4
  pub other : last ≢ checksum_of payload

-- it stands for a version that is neither 0 nor 5, a hash, and their checksum
pub record IsMisversioned (text : List ℕ) : Type 0 where
  pub payload : List ℕ
  pub spelling : text ≡ text_of (sealed payload)
  pub fit : IsBytes payload
  pub size : length payload ≡ 21
  pub no_key : slice_index payload 0 ≢ 0
  pub no_script : slice_index payload 0 ≢ 5

-- The rule that a fault names is the first that the text breaks.
abbrev pub Breaks : List ℕ → Base58Fault → Type 0
Breaks text Letter = Any (λ c. Contains alphabet c → ⊥) text
Breaks text Length = IsMissized text
Breaks text Checksum = IsUnsealed text
Breaks text Version = IsMisversioned text
Breaks text Memory = ⊥
