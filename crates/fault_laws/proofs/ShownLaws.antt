-- How names and hashes stand among words.
use Rattle.std.proofs.Common.{◌≡◌, ℕ, List, length, reverse, string_bytes, arith}
use Rattle.std.specs.declared.string.String.{String}
use Rattle.std.proofs.lemmas.List.{length-reverse}
use Rattle.hex.specs.Hex.{lower_digits}
use Rattle.hex.proofs.HexLemmas.{length-encode_with}
use Rattle.fund_base.specs.Cursor.{IsBytes}
use Rattle.json_fields.specs.Fields.{IsHash}
use Rattle.command_end.proofs.CoinLaws.{hashes_apart}
use Rattle.command_end.proofs.NameLaws.{printable, apart}
use Rattle.command_end.specs.Coin.{shown_hash}
use Rattle.command_end.specs.Name.{shown_name}
use Rattle.fault_laws.proofs.WordLaws.{NoBlank, name_bytes, printable_plain}

-- of bytes
pub bytes_apart : (a b : List ℕ) → IsBytes a → IsBytes b → shown_name a ≡ shown_name b → a ≡ b
bytes_apart a b a_is b_is e = apart a b a_is b_is e

pub bytes_plain : (name : List ℕ) → IsBytes name → NoBlank (shown_name name)
bytes_plain name is = printable_plain (shown_name name) (printable name is)

pub name_apart : {Z : Type 0} (a b : String Z) → shown_name (string_bytes a) ≡ shown_name (string_bytes b) → string_bytes a ≡ string_bytes b
name_apart a b e = apart (string_bytes a) (string_bytes b) (name_bytes a) (name_bytes b) e

-- ---- hashes

pub hash_long : (hash : List ℕ) → IsHash hash → length (shown_hash hash) ≡ 64
hash_long hash is = let len = is.len in omega (arith, length-encode_with lower_digits (reverse hash), length-reverse hash)

pub hash_apart : (a b : List ℕ) → IsHash a → IsHash b → shown_hash a ≡ shown_hash b → a ≡ b
hash_apart a b a_is b_is e = hashes_apart a b a_is.bytes b_is.bytes e
