-- Which script a text is read as, or which fault comes first (BIP 173 and BIP 350).
use Rattle.std.specs.Prelude.{ℕ, ◌-◌, ◌==◌, nat_lt, nat_le, ◌&&◌, ◌||◌, not, Bool, List, ◌∷◌, ◌++◌, map, reverse, length, take, drop, slice_index, position, count_by, bytes_eq, codes, Option, Some, None, Result, Ok, Err, if◌then◌else◌}
use Rattle.std.specs.Char.{to_ascii_lowercase}
use Rattle.std.specs.List.{list_any}
use Rattle.segwit_addr.specs.Bech32.{polymod, expanded, bech32_sum, bech32m_sum, value_of}
use Rattle.segwit_addr.specs.Regrouping.{bytes_of, size_of, left_over, padding_of}
use Rattle.segwit_addr.specs.Address.{is_mixed, is_refused, version_byte, sum_of}
use Rattle.segwit_addr.specs.declared.fault.AddrFault.{AddrFault}
use Rattle.segwit_addr.specs.declared.fault.AddrFault.TheVariants.{Case, Separator, Letter, Checksum, Network, Version, Length, Padding}

-- how many bytes stand after the last `1`
abbrev pub behind_last : List ℕ → Option ℕ
behind_last text = position (λ c. c == 49) (reverse text)

-- the number of characters of a text in UTF-8: of bytes that do not continue a character
abbrev pub char_count : List ℕ → ℕ
char_count text = count_by (λ c. nat_lt c 128 || nat_le 192 c) text

-- a character stands there that may not stand in a human-readable part
unfoldable pub has_outsider : List ℕ → Bool
has_outsider prefix = list_any (λ c. nat_lt c 33 || nat_lt 126 c) prefix

-- a value stands there that no letter has
unfoldable pub has_unknown : List ℕ → Bool
has_unknown values = list_any (λ v. nat_le 32 v) values

-- after the last whole byte of these values stand five bits or more, or one that is not zero
abbrev pub is_badly_padded : List ℕ → Bool
is_badly_padded values = nat_le 5 (left_over values) || not (padding_of values == 0)

-- the script of a version and the values of a program, or what is wrong with them
unfoldable pub program_at : ℕ → List ℕ → Result (List ℕ) AddrFault
program_at version values =
    if is_badly_padded values then Err Padding
    else if is_refused version (size_of values) then Err Length
    else Ok (version_byte version ∷ size_of values ∷ bytes_of values)

-- the script of the values between the separator and the checksum, where the whole text has this
-- checksum, or what is wrong with them
unfoldable pub versioned_at : List ℕ → ℕ → Result (List ℕ) AddrFault
versioned_at values sum =
    if nat_lt 16 (slice_index values 0) then Err Version
    else if not (sum == sum_of (slice_index values 0)) then Err Version
    else program_at (slice_index values 0) (drop 1 values)

-- the script of a human-readable part and the values of all letters after the separator, or what is
-- wrong with them
unfoldable pub summed_at : List ℕ → List ℕ → Result (List ℕ) AddrFault
summed_at prefix values =
    if not (polymod (expanded prefix ++ values) == bech32_sum) && not (polymod (expanded prefix ++ values) == bech32m_sum) then Err Checksum
    else if not (bytes_eq prefix (codes "bc")) then Err Network
    else versioned_at (take (length values - 6) values) (polymod (expanded prefix ++ values))

-- the script of what stands before the separator and of what stands after it, or what is wrong with them
unfoldable pub parts_at : List ℕ → List ℕ → Result (List ℕ) AddrFault
parts_at prefix letters =
    if length prefix == 0 || nat_lt (char_count letters) 7 then Err Separator
    else if has_outsider prefix || has_unknown (map value_of letters) then Err Letter
    else summed_at prefix (map value_of letters)

-- the script of a text after whose last `1` so many bytes stand, or what is wrong with it
abbrev pub split_at : List ℕ → Option ℕ → Result (List ℕ) AddrFault
split_at text None = Err Separator
split_at text (Some behind) = parts_at (take (length text - behind - 1) text) (drop (length text - behind) text)

-- the script of a text, or the first fault
unfoldable pub decode_of : List ℕ → Result (List ℕ) AddrFault
decode_of text =
    if nat_lt (length text) 8 || nat_lt 90 (length text) then Err Length
    else if is_mixed text then Err Case
    else split_at (map to_ascii_lowercase text) (behind_last (map to_ascii_lowercase text))
