-- The rules of an entry's parts, as tests.
use Rattle.std.specs.Prelude.{ℕ, ◌==◌, Bool, true, false, ◌&&◌, ◌||◌, not, nat_lt, nat_le, List, [], ◌∷◌, ◌++◌, length, take, drop, slice_index, bytes_eq, Option, Some, None, is_some, unwrap_or, if◌then◌else◌}
use Rattle.std.specs.List.{list_any}
use Rattle.std.specs.Option.{option_map_or}
use Rattle.sha2.specs.Sha256.{sha256}
use Rattle.keys_text.specs.PlainKeys.{PlainEntry, PlainKeyPath}

-- 1 to 10,000 bytes
abbrev pub has_script_length : List ℕ → Bool
has_script_length script = nat_lt 0 (length script) && nat_le (length script) 10_000

-- pay to script hash: OP_HASH160, a push of 20 bytes, and OP_EQUAL (BIP 16)
abbrev pub pays_script_hash : List ℕ → Bool
pays_script_hash script = (length script == 23) && bytes_eq (take 2 script) (169 ∷ 20 ∷ []) && bytes_eq (drop 22 script) (135 ∷ [])

-- pay to taproot: OP_1, and a push of 32 bytes (BIP 341, 'Script validation rules')
abbrev pub pays_taproot : List ℕ → Bool
pays_taproot script = (length script == 34) && bytes_eq (take 2 script) (81 ∷ 32 ∷ [])

-- the script that pays to a witness script: OP_0, and a push of its SHA-256 (BIP 141, 'Witness program')
abbrev pub witness_program : List ℕ → List ℕ
witness_program witness = 0 ∷ 32 ∷ sha256 witness

-- the script in which a witness program stands: the redeem script, where there is one
abbrev pub program_of : PlainEntry → List ℕ
program_of e = unwrap_or e.known.redeem e.script

-- a redeem script stands beside a script that pays to a script hash alone
abbrev pub fits_redeem : PlainEntry → Bool
fits_redeem e = not (is_some e.known.redeem) || pays_script_hash e.script

-- a witness script is the one whose hash the witness program is
abbrev pub fits_witness : PlainEntry → Bool
fits_witness e = option_map_or (λ w. bytes_eq (program_of e) (witness_program w)) e.known.witness true

-- an internal key stands beside exactly those scripts that pay to taproot
abbrev pub fits_internal : PlainEntry → Bool
fits_internal e = if is_some e.known.internal then pays_taproot e.script else not (pays_taproot e.script)

-- a public key in its compressed form: 02 or 03, and 32 bytes
abbrev pub is_compressed : List ℕ → Bool
is_compressed [] = false
is_compressed (b ∷ x) = ((b == 2) || (b == 3)) && (length x == 32)

-- the key of an entry: the internal key, where there is one, and else a compressed public key
abbrev pub fits_key : Option (List ℕ) → List ℕ → Bool
fits_key None key = is_compressed key
fits_key (Some internal) key = bytes_eq key internal

-- An extended public key: 78 bytes, of which the fifth is how many steps lead to it and the last 33 are a compressed public
-- key (BIP 32, 'Serialization format').
abbrev pub is_xpub : PlainKeyPath → Bool
is_xpub k = (length k.key == 78) && (slice_index k.key 4 == length k.path) && is_compressed (drop 45 k.key)

-- one of these has this key
abbrev pub has_key : List PlainKeyPath → List ℕ → Bool
has_key ks key = list_any (λ (k : PlainKeyPath). bytes_eq key k.key) ks

-- the first place whose key stands before it
unfoldable pub repeat_from : List PlainKeyPath → List PlainKeyPath → Option ℕ
repeat_from before [] = None
repeat_from before (k ∷ ks) = if has_key before k.key then Some (length before) else repeat_from (before ++ k ∷ []) ks
