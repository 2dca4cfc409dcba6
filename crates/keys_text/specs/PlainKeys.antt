-- What a keys file tells, without where it lies in memory.
use Rattle.std.specs.Prelude.{ℕ, List, Option}

-- A key and how it is derived: the fingerprint of the master key, and the indices of the steps from there (BIP 32).
pub record PlainKeyPath : Type 0 where
  pub key : List ℕ
  pub fingerprint : List ℕ
  pub path : List ℕ

-- what a signer has to know of a script beside the script itself
pub record PlainScriptKeys : Type 0 where
  pub redeem : Option (List ℕ)
  pub witness : Option (List ℕ)
  pub internal : Option (List ℕ)
  pub keys : List PlainKeyPath

-- a script, and that
pub record PlainEntry : Type 0 where
  pub script : List ℕ
  pub known : PlainScriptKeys

pub record PlainKeys : Type 0 where
  pub scripts : List PlainEntry
  pub xpubs : List PlainKeyPath
