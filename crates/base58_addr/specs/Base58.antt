-- The letters of base58, and which bytes a text of them stands for (Bitcoin developer reference, 'Base58Check').
use Rattle.std.specs.Prelude.{ℕ, ◌==◌, ◌%◌, nat_le, List, map, length, position, slice_index, codes, Option, unwrap_or}
use Rattle.base58_addr.specs.Rebasing.{rebased}

-- the letters of the values from 0 to 57
abbrev pub alphabet : List ℕ
alphabet = codes "123456789ABCDEFGHJKLMNPQRSTUVWXYZabcdefghijkmnopqrstuvwxyz"

-- the place of the first such letter
unfoldable pub found_at : List ℕ → ℕ → Option ℕ
found_at letters c = position (λ a. a == c) letters

-- the same, and the number of letters where there is none
abbrev pub place_of : List ℕ → ℕ → ℕ
place_of letters c = unwrap_or (found_at letters c) (length letters)

-- the value of a letter, and 58 where it is not in the alphabet
unfoldable pub value_of : ℕ → ℕ
value_of c = place_of alphabet c

-- the letter at a place
unfoldable pub letter_at : List ℕ → ℕ → ℕ
letter_at letters place = slice_index letters (place % 58)

-- the letter of a value
abbrev pub letter_of : ℕ → ℕ
letter_of value = letter_at alphabet value

-- the place of the first letter that isn't in the alphabet
abbrev pub other_letter : List ℕ → Option ℕ
other_letter text = position (λ c. nat_le 58 (value_of c)) text

-- The text that stands for these bytes: a `1` for each zero that they begin with, and the digits of their number.
abbrev pub text_of : List ℕ → List ℕ
text_of bytes = map letter_of (rebased 256 58 bytes)

-- the bytes for which a text stands
abbrev pub bytes_of : List ℕ → List ℕ
bytes_of text = rebased 58 256 (map value_of text)
