-- What an address of a witness program is (BIP 173 and BIP 350; BIP 141, 'Witness program').
use Rattle.std.specs.Prelude.{false, ℕ, ◌≡◌, ◌+◌, ◌-◌, ◌==◌, nat_lt, nat_le, ◌&&◌, ◌||◌, not, Bool, List, ◌∷◌, ◌++◌, map, length, drop, slice_index, codes, Option, Some, None, if◌then◌else◌}
use Rattle.std.specs.Char.{is_ascii_uppercase, is_ascii_lowercase, to_ascii_lowercase}
use Rattle.std.specs.List.{list_any}
use Rattle.fund_base.specs.Cursor.{IsBytes}
use Rattle.segwit_addr.specs.Bech32.{polymod, expanded, bech32_sum, bech32m_sum, value_of, letter_of, checksum_of}
use Rattle.segwit_addr.specs.Regrouping.{values_of}

-- ---- scripts

-- A program of so many bytes may not stand after the version: all have 2 to 40, and at version 0 they have
-- 20 or 32.
abbrev pub is_refused : ℕ → ℕ → Bool
is_refused version size =
    nat_lt size 2 || nat_lt 40 size || (version == 0 && (not (size == 20) && not (size == 32)))

-- the byte of a script that stands for a version
abbrev pub version_byte : ℕ → ℕ
version_byte version = if version == 0 then 0 else 80 + version

-- the checksum that the texts of a version have: of bech32 at version 0, and else of bech32m
abbrev pub sum_of : ℕ → ℕ
sum_of version = if version == 0 then bech32_sum else bech32m_sum

-- the version whose byte it is
abbrev pub version_of : ℕ → ℕ
version_of byte = byte - 80

-- The script is a witness program of an allowed length: the byte of a version from 0 to 16, the program's
-- length, and the program.
unfoldable pub is_witness : List ℕ → Bool
is_witness script =
    nat_le 4 (length script)
    && ((slice_index script 0 == 0) || (nat_le 81 (slice_index script 0) && nat_le (slice_index script 0) 96))
    && (slice_index script 1 + 2 == length script)
    && not (is_refused (version_of (slice_index script 0)) (length script - 2))

-- ---- texts

-- The lower case text of the values of a version and a program: the human-readable part and the separator,
-- the letters of the values, and those of the checksum that is due.
unfoldable pub text_of : ℕ → List ℕ → List ℕ
text_of version values =
    codes "bc1" ++ map letter_of (values ++ checksum_of (codes "bc") values (sum_of version))

-- the address of a script, and none where it is no witness program of an allowed length
unfoldable pub encode_of : List ℕ → Option (List ℕ)
encode_of script =
    if is_witness script then Some (text_of (version_of (slice_index script 0)) (version_of (slice_index script 0) ∷ values_of (drop 2 script)))
    else None

-- an upper case letter of ASCII stands in the text
unfoldable pub has_upper : List ℕ → Bool
has_upper text = list_any is_ascii_uppercase text

-- a lower case one does
unfoldable pub has_lower : List ℕ → Bool
has_lower text = list_any is_ascii_lowercase text

-- both do
abbrev pub is_mixed : List ℕ → Bool
is_mixed text = has_upper text && has_lower text

-- the text is an address of the script
pub record IsAddress (text script : List ℕ) : Type 0 where
  -- upper case and lower case letters do not stand in it together
  pub one_case : is_mixed text ≡ false
  -- in lower case it is the address of the script
  pub spells : encode_of script ≡ Some (map to_ascii_lowercase text)
  -- the script is of bytes
  pub bytes : IsBytes script

-- no upper case letter of ASCII stands in the text
unfoldable pub IsLower : List ℕ → Type 0
IsLower text = map to_ascii_lowercase text ≡ text

-- the checksum of the whole of a lower case text that begins with `bc1`
abbrev pub sum_in : List ℕ → ℕ
sum_in text = polymod (expanded (codes "bc") ++ map value_of (drop 3 text))
