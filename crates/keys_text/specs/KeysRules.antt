-- What is true of every keys file.
use Rattle.std.specs.Prelude.{ℕ, ◌≡◌, ◌≢◌, ◌≤◌, ◌<◌, ◌^◌, ◌↔◌, List, length, All, AllPairs, Option, Some, None, IfSome, IsSome, IsTrue}
use Rattle.fund_base.specs.Cursor.{IsBytes}
use Rattle.json_fields.specs.Fields.{IsHash}
use Rattle.keys_text.specs.Judging.{is_compressed, is_xpub, pays_script_hash, pays_taproot, program_of, witness_program}
use Rattle.keys_text.specs.PlainKeys.{PlainEntry, PlainKeyPath, PlainKeys}

-- Bytes of a key, a fingerprint of four bytes, and a path of at most 255 steps, each an index of 32 bits.
pub record IsKeyPath (k : PlainKeyPath) : Type 0 where
  pub key : IsBytes k.key
  pub fingerprint_len : length k.fingerprint ≡ 4
  pub fingerprint : IsBytes k.fingerprint
  pub path : All (λ index. index < 2 ^ 32) k.path
  pub few : length k.path ≤ 255

-- no two keys are the same
abbrev pub AreDistinctKeys : List PlainKeyPath → Type 0
AreDistinctKeys ks = AllPairs (λ (j k : PlainKeyPath). j.key ≢ k.key) ks

-- at most 1,000 keys with their paths, of which no two are the same
pub record AreKeyPaths (ks : List PlainKeyPath) : Type 0 where
  pub each : All IsKeyPath ks
  pub few : length ks ≤ 1_000
  pub distinct : AreDistinctKeys ks

-- the key of an entry with this internal key: that one, or without one a compressed public key
abbrev pub IsKeyOf : Option (List ℕ) → List ℕ → Type 0
IsKeyOf None key = IsTrue (is_compressed key)
IsKeyOf (Some internal) key = key ≡ internal

pub record IsEntry (e : PlainEntry) : Type 0 where
  pub some : 0 < length e.script
  pub most : length e.script ≤ 10_000
  pub script : IsBytes e.script
  pub redeem : IfSome e.known.redeem (λ r. IsBytes r × IsTrue (pays_script_hash e.script))
  pub witness : IfSome e.known.witness (λ w. IsBytes w × (program_of e ≡ witness_program w))
  pub taproot : IsSome e.known.internal ↔ IsTrue (pays_taproot e.script)
  pub internal : IfSome e.known.internal IsHash
  pub keys : AreKeyPaths e.known.keys
  pub fit : All (λ (k : PlainKeyPath). IsKeyOf e.known.internal k.key) e.known.keys

-- no two scripts are the same
abbrev pub AreDistinctScripts : List PlainEntry → Type 0
AreDistinctScripts es = AllPairs (λ (d e : PlainEntry). d.script ≢ e.script) es

pub record IsKeys (k : PlainKeys) : Type 0 where
  pub scripts : All IsEntry k.scripts
  pub distinct : AreDistinctScripts k.scripts
  pub xpubs : AreKeyPaths k.xpubs
  pub extended : All (λ x. IsTrue (is_xpub x)) k.xpubs
