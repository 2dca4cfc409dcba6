-- The checksum and the alphabet of bech32 and bech32m (BIP 173, 'Checksum', and BIP 350).
use Rattle.std.specs.Prelude.{ℕ, Option, List, [], ◌∷◌, ◌++◌, ◌*◌, ◌/◌, ◌%◌, ◌^◌, ◌==◌, map, length, slice_index, fold, position, unwrap_or, bit_xor, codes, if◌then◌else◌}

-- the generator where the bit of that number is set, and else nothing
unfoldable pub generator_at : ℕ → ℕ → ℕ → ℕ
generator_at top bit generator = if top / 2 ^ bit % 2 == 1 then generator else 0

-- one value of five bits after those that the checksum was taken of: with it the remainder moves up by
-- five bits, and each bit that leaves it brings in a generator
unfoldable pub polymod_step : ℕ → ℕ → ℕ
polymod_step sum value =
    bit_xor (bit_xor (bit_xor (bit_xor (bit_xor (bit_xor (sum % 2 ^ 25 * 32) value)
    (generator_at (sum / 2 ^ 25) 0 0x3b6a57b2))
    (generator_at (sum / 2 ^ 25) 1 0x26508e6d))
    (generator_at (sum / 2 ^ 25) 2 0x1ea119fa))
    (generator_at (sum / 2 ^ 25) 3 0x3d4233dd))
    (generator_at (sum / 2 ^ 25) 4 0x2a1462b3)

-- the checksum of values of five bits
abbrev pub polymod : List ℕ → ℕ
polymod values = fold polymod_step 1 values

-- what stands for the human-readable part in the checksum: the high three bits of each character, a 0,
-- and the low five bits of each
abbrev pub expanded : List ℕ → List ℕ
expanded prefix = map (λ c. c / 32) prefix ++ 0 ∷ map (λ c. c % 32) prefix

-- what the checksum of a whole bech32 text is
abbrev pub bech32_sum : ℕ
bech32_sum = 1

-- what that of a whole bech32m text is (BIP 350)
abbrev pub bech32m_sum : ℕ
bech32m_sum = 0x2bc830a3

-- the letters of the values from 0 to 31
abbrev pub alphabet : List ℕ
alphabet = codes "qpzry9x8gf2tvdw0s3jn54khce6mua7l"

-- the place of the first such letter
unfoldable pub found_at : List ℕ → ℕ → Option ℕ
found_at letters c = position (λ a. a == c) letters

-- the same, and the number of letters where there is none
abbrev pub place_of : List ℕ → ℕ → ℕ
place_of letters c = unwrap_or (found_at letters c) (length letters)

-- the value of a letter, and 32 where it is not in the alphabet
unfoldable pub value_of : ℕ → ℕ
value_of c = place_of alphabet c

-- the letter at a place
unfoldable pub letter_at : List ℕ → ℕ → ℕ
letter_at letters place = slice_index letters (place % 32)

-- the letter of a value
abbrev pub letter_of : ℕ → ℕ
letter_of value = letter_at alphabet value

-- a number of thirty bits as six values
abbrev pub six_values : ℕ → List ℕ
six_values n = n / 2 ^ 25 % 32 ∷ n / 2 ^ 20 % 32 ∷ n / 2 ^ 15 % 32 ∷ n / 2 ^ 10 % 32 ∷ n / 2 ^ 5 % 32 ∷ n % 32 ∷ []

-- the six values that give a text of this human-readable part and these values the checksum
abbrev pub checksum_of : List ℕ → List ℕ → ℕ → List ℕ
checksum_of prefix values sum = six_values (bit_xor (polymod (expanded prefix ++ (values ++ (0 ∷ 0 ∷ 0 ∷ 0 ∷ 0 ∷ 0 ∷ [])))) sum)
