-- Rows of bits: those of items of some width, each from its highest bit on, cut anew (BIP 173, 'Segwit address
-- format').
use Rattle.std.specs.Prelude.{ℕ, List, map, ◌+◌, ◌-◌, ◌*◌, ◌/◌, ◌%◌, ◌^◌, length, slice_index}
use Rattle.std.specs.List.{range_with_len}

-- the bit at a place of the row, and 0 after its end
unfoldable pub bit_of : ℕ → List ℕ → ℕ → ℕ
bit_of width items place = slice_index items (place / width) / 2 ^ (width - 1 - place % width) % 2

-- the eight bits from a place on, of values of five bits
unfoldable pub eight_bits : List ℕ → ℕ → ℕ
eight_bits values at =
    128 * bit_of 5 values at + 64 * bit_of 5 values (at + 1) + 32 * bit_of 5 values (at + 2) + 16 * bit_of 5 values (at + 3)
    + 8 * bit_of 5 values (at + 4) + 4 * bit_of 5 values (at + 5) + 2 * bit_of 5 values (at + 6) + bit_of 5 values (at + 7)

-- the five bits from a place on, of bytes
unfoldable pub five_bits : List ℕ → ℕ → ℕ
five_bits bytes at =
    16 * bit_of 8 bytes at + 8 * bit_of 8 bytes (at + 1) + 4 * bit_of 8 bytes (at + 2) + 2 * bit_of 8 bytes (at + 3) + bit_of 8 bytes (at + 4)

-- the number of whole bytes in the row of these values
abbrev pub size_of : List ℕ → ℕ
size_of values = length values * 5 / 8

-- those bytes
abbrev pub bytes_of : List ℕ → List ℕ
bytes_of values = map (λ i. eight_bits values (8 * i)) (range_with_len 0 (size_of values))

-- the number of bits that are left over after those bytes
abbrev pub left_over : List ℕ → ℕ
left_over values = length values * 5 % 8

-- what those bits are, fewer than five, as a number
abbrev pub padding_of : List ℕ → ℕ
padding_of values = slice_index values (length values - 1) % 2 ^ left_over values

-- the values of the row of these bytes, with zeros after it to fill the last
abbrev pub values_of : List ℕ → List ℕ
values_of bytes = map (λ i. five_bits bytes (5 * i)) (range_with_len 0 ((length bytes * 8 + 4) / 5))
