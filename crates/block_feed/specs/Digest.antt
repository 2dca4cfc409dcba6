-- The digest of the bytes that a feed reads, where one is asked for.
use Rattle.std.specs.Prelude.{ℕ, ◌≡◌, List, Option, Some, None}
use Rattle.sha2.specs.Hashers.{Holds256}
use Rattle.sha2.specs.Sha256.{sha256}
use Rattle.sha2.specs.declared.Sha256.{Sha256}

-- what computes the digest, where one is asked for, has taken these bytes
abbrev pub HasTaken : Option Sha256 → List ℕ → Type 0
HasTaken None bytes = Unit {0}
HasTaken (Some hasher) bytes = Holds256 hasher bytes

-- the SHA-256 of these bytes where a digest is asked for, and none elsewhere
abbrev pub IsDigest : Option Sha256 → List ℕ → Option (List ℕ) → Type 0
IsDigest None bytes digest = digest ≡ None
IsDigest (Some hasher) bytes digest = digest ≡ Some (sha256 bytes)
