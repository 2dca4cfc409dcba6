-- What an address of a public key hash or a script hash is (Bitcoin developer reference, 'Base58Check'; BIP 13).
use Rattle.std.specs.Prelude.{ℕ, ◌≡◌, ◌==◌, ◌&&◌, ◌||◌, Bool, List, [], ◌∷◌, ◌++◌, length, take, drop, bytes_eq, Option, Some, None, if◌then◌else◌}
use Rattle.fund_base.specs.Cursor.{IsBytes}
use Rattle.sha2.specs.Sha256.{sha256}
use Rattle.base58_addr.specs.Base58.{text_of}

-- ---- scripts

-- the script that pays to a public key hash: OP_DUP OP_HASH160, a push of it, OP_EQUALVERIFY OP_CHECKSIG
abbrev pub key_script : List ℕ → List ℕ
key_script hash = 118 ∷ 169 ∷ 20 ∷ (hash ++ 136 ∷ 172 ∷ [])

-- the script that pays to a script hash: OP_HASH160, a push of it, OP_EQUAL (BIP 16)
abbrev pub hash_script : List ℕ → List ℕ
hash_script hash = 169 ∷ 20 ∷ (hash ++ 135 ∷ [])

-- a script pays to a public key hash
abbrev pub pays_key : List ℕ → Bool
pays_key script = (length script == 25) && bytes_eq (take 3 script) (118 ∷ 169 ∷ 20 ∷ []) && bytes_eq (drop 23 script) (136 ∷ 172 ∷ [])

-- it pays to a script hash
abbrev pub pays_script : List ℕ → Bool
pays_script script = (length script == 23) && bytes_eq (take 2 script) (169 ∷ 20 ∷ []) && bytes_eq (drop 22 script) (135 ∷ [])

-- it pays to either
abbrev pub pays_hash : List ℕ → Bool
pays_hash script = pays_key script || pays_script script

-- ---- texts

-- the checksum of a version and a hash: the first four bytes of their double SHA-256
abbrev pub checksum_of : List ℕ → List ℕ
checksum_of payload = take 4 (sha256 (sha256 payload))

-- a version and a hash, with their checksum
abbrev pub sealed : List ℕ → List ℕ
sealed payload = payload ++ checksum_of payload

-- the address of a script, at version 0 for a public key hash and 5 for a script hash, and none where it pays to neither
unfoldable pub encode_of : List ℕ → Option (List ℕ)
encode_of script =
    if pays_key script then Some (text_of (sealed (0 ∷ take 20 (drop 3 script))))
    else if pays_script script then Some (text_of (sealed (5 ∷ take 20 (drop 2 script))))
    else None

-- the text is the address of the script
pub record IsAddress (text script : List ℕ) : Type 0 where
  pub spells : encode_of script ≡ Some text
  -- the script is of bytes
  pub bytes : IsBytes script
