-- Values of five bits and bytes that are one row of bits, made of one another.
use Rattle.std.proofs.Common.{◌≡◌, ℕ, ◌+◌, ◌-◌, ◌*◌, ◌/◌, ◌%◌, ◌^◌, ◌<◌, ◌≤◌, zero, suc, false, List, [], ◌∷◌, length, get_or, sym, ◌∙◌, ap, refl, arith, ⊎_elim, add-zero, pow_pos}
use Rattle.std.specs.List.{All}
use Rattle.std.specs.Int.{bit_at}
use Rattle.std.proofs.Math.Nat.{mod-lt}
use Rattle.std.proofs.lemmas.Bool.{cases_lt, eq-eqb, eqb-true, leb-false, lt-leb, not-false, not_from_true, or_from, or_parts}
use Rattle.std.proofs.lemmas.List.{get_or_past}
use Rattle.std.proofs.lemmas.List.FromFn.{length-map-range_with_len, get_or-map-range_with_len, fill_by_all}
use Rattle.std.proofs.lemmas.Nat.{shr_split}
use Rattle.std.proofs.lemmas.Nat.Bits.{bit_at-zero, bit_at_cat_low, bit_at_above, same_from_bits}
use Rattle.segwit_addr.specs.Reading.{is_badly_padded}
use Rattle.segwit_addr.specs.Regrouping.{bit_of, eight_bits, five_bits, size_of, bytes_of, left_over, padding_of, values_of}

-- ---- one bit of a row

bit_is : (width : ℕ) (items : List ℕ) (place i j : ℕ) → place / width ≡ i → place % width ≡ j → bit_of width items place ≡ get_or items i 0 / 2 ^ (width - 1 - j) % 2
unfolding bit_of
bit_is width items place i j here there = λ k. get_or items (here k) 0 / 2 ^ (width - 1 - there k) % 2

bit_below : (width : ℕ) (items : List ℕ) (place : ℕ) → bit_of width items place < 2
unfolding bit_of
bit_below width items place = omega arith

-- after the end of the row
bit_past : (width : ℕ) (items : List ℕ) (place : ℕ) → length items ≤ place / width → bit_of width items place ≡ 0
bit_past width items place past =
    bit_is width items place (place / width) (place % width) refl refl
    ∙ ap (λ (x : ℕ). x / 2 ^ (width - 1 - place % width) % 2) (get_or_past items (place / width) 0 past)
    ∙ bit_at-zero (width - 1 - place % width)

-- ---- a number by its bits

five_bits_of : (x : ℕ) → x < 32 → 16 * (x / 16 % 2) + 8 * (x / 8 % 2) + 4 * (x / 4 % 2) + 2 * (x / 2 % 2) + x / 1 % 2 ≡ x
five_bits_of x low = omega arith

eight_bits_of : (x : ℕ) → x < 256 → 128 * (x / 128 % 2) + 64 * (x / 64 % 2) + 32 * (x / 32 % 2) + 16 * (x / 16 % 2) + 8 * (x / 8 % 2) + 4 * (x / 4 % 2) + 2 * (x / 2 % 2) + x / 1 % 2 ≡ x
eight_bits_of x low = omega arith

bit_of_five : (a b c d e j : ℕ) → a < 2 → b < 2 → c < 2 → d < 2 → e < 2 → j < 5
    → (16 * a + 8 * b + 4 * c + 2 * d + e) / 2 ^ (5 - 1 - j) % 2 ≡ get_or (a ∷ b ∷ c ∷ d ∷ e ∷ []) j 0
bit_of_five a b c d e zero ha hb hc hd he h = omega arith
bit_of_five a b c d e (suc zero) ha hb hc hd he h = omega arith
bit_of_five a b c d e (suc (suc zero)) ha hb hc hd he h = omega arith
bit_of_five a b c d e (suc (suc (suc zero))) ha hb hc hd he h = omega arith
bit_of_five a b c d e (suc (suc (suc (suc zero)))) ha hb hc hd he h = omega arith
bit_of_five a b c d e (suc (suc (suc (suc (suc j))))) ha hb hc hd he h = absurd (omega arith)

bit_of_eight : (a b c d e f g h j : ℕ) → a < 2 → b < 2 → c < 2 → d < 2 → e < 2 → f < 2 → g < 2 → h < 2 → j < 8
    → (128 * a + 64 * b + 32 * c + 16 * d + 8 * e + 4 * f + 2 * g + h) / 2 ^ (8 - 1 - j) % 2 ≡ get_or (a ∷ b ∷ c ∷ d ∷ e ∷ f ∷ g ∷ h ∷ []) j 0
bit_of_eight a b c d e f g h zero ha hb hc hd he hf hg hh low = omega arith
bit_of_eight a b c d e f g h (suc zero) ha hb hc hd he hf hg hh low = omega arith
bit_of_eight a b c d e f g h (suc (suc zero)) ha hb hc hd he hf hg hh low = omega arith
bit_of_eight a b c d e f g h (suc (suc (suc zero))) ha hb hc hd he hf hg hh low = omega arith
bit_of_eight a b c d e f g h (suc (suc (suc (suc zero)))) ha hb hc hd he hf hg hh low = omega arith
bit_of_eight a b c d e f g h (suc (suc (suc (suc (suc zero))))) ha hb hc hd he hf hg hh low = omega arith
bit_of_eight a b c d e f g h (suc (suc (suc (suc (suc (suc zero)))))) ha hb hc hd he hf hg hh low = omega arith
bit_of_eight a b c d e f g h (suc (suc (suc (suc (suc (suc (suc zero))))))) ha hb hc hd he hf hg hh low = omega arith
bit_of_eight a b c d e f g h (suc (suc (suc (suc (suc (suc (suc (suc j)))))))) ha hb hc hd he hf hg hh low = absurd (omega arith)

-- the items of a function from a place on
fifth : (f : ℕ → ℕ) (at j : ℕ) → j < 5 → get_or (f at ∷ f (at + 1) ∷ f (at + 2) ∷ f (at + 3) ∷ f (at + 4) ∷ []) j 0 ≡ f (at + j)
fifth f at zero h = ap f (sym (add-zero at))
fifth f at (suc zero) h = refl
fifth f at (suc (suc zero)) h = refl
fifth f at (suc (suc (suc zero))) h = refl
fifth f at (suc (suc (suc (suc zero)))) h = refl
fifth f at (suc (suc (suc (suc (suc j))))) h = absurd (omega arith)

eighth : (f : ℕ → ℕ) (at j : ℕ) → j < 8 → get_or (f at ∷ f (at + 1) ∷ f (at + 2) ∷ f (at + 3) ∷ f (at + 4) ∷ f (at + 5) ∷ f (at + 6) ∷ f (at + 7) ∷ []) j 0 ≡ f (at + j)
eighth f at zero h = ap f (sym (add-zero at))
eighth f at (suc zero) h = refl
eighth f at (suc (suc zero)) h = refl
eighth f at (suc (suc (suc zero))) h = refl
eighth f at (suc (suc (suc (suc zero)))) h = refl
eighth f at (suc (suc (suc (suc (suc zero))))) h = refl
eighth f at (suc (suc (suc (suc (suc (suc zero)))))) h = refl
eighth f at (suc (suc (suc (suc (suc (suc (suc zero))))))) h = refl
eighth f at (suc (suc (suc (suc (suc (suc (suc (suc j)))))))) h = absurd (omega arith)

-- where the low bits are zero, each of them is, and the other way round
low_zero : (x m k : ℕ) → x % 2 ^ m ≡ 0 → k < m → bit_at x k ≡ 0
low_zero x m k none lt =
    ap (λ (y : ℕ). bit_at y k) (sym (shr_split x m)) ∙ bit_at_cat_low (x / 2 ^ m) m (x % 2 ^ m) k lt ∙ ap (λ (y : ℕ). bit_at y k) none ∙ bit_at-zero k

zero_low : (x m : ℕ) → ((k : ℕ) → k < m → bit_at x k ≡ 0) → x % 2 ^ m ≡ 0
zero_low x m each =
    same_from_bits (x % 2 ^ m) 0 (λ i. ⊎_elim
    (λ (lt : i < m). sym (bit_at_cat_low (x / 2 ^ m) m (x % 2 ^ m) i lt) ∙ ap (λ (y : ℕ). bit_at y i) (shr_split x m) ∙ each i lt ∙ sym (bit_at-zero i))
    (λ (ge : m ≤ i). bit_at_above (x % 2 ^ m) m i (mod-lt x (pow_pos m)) ge ∙ sym (bit_at-zero i))
    (cases_lt i m))

-- ---- the bytes of values

byte_fits : (values : List ℕ) (at : ℕ) → eight_bits values at < 256
unfolding eight_bits
byte_fits values at =
    omega (arith, bit_below 5 values at, bit_below 5 values (at + 1), bit_below 5 values (at + 2), bit_below 5 values (at + 3), bit_below 5 values (at + 4), bit_below 5 values (at + 5), bit_below 5 values (at + 6), bit_below 5 values (at + 7))

byte_bit : (values : List ℕ) (at j : ℕ) → j < 8 → eight_bits values at / 2 ^ (8 - 1 - j) % 2 ≡ bit_of 5 values (at + j)
unfolding eight_bits
byte_bit values at j low =
    bit_of_eight _ _ _ _ _ _ _ _ j (bit_below 5 values at) (bit_below 5 values (at + 1)) (bit_below 5 values (at + 2)) (bit_below 5 values (at + 3)) (bit_below 5 values (at + 4)) (bit_below 5 values (at + 5)) (bit_below 5 values (at + 6)) (bit_below 5 values (at + 7)) low
    ∙ eighth (λ (p : ℕ). bit_of 5 values p) at j low

pub length_bytes : (values : List ℕ) → length (bytes_of values) ≡ size_of values
length_bytes values = length-map-range_with_len (λ (i : ℕ). eight_bits values (8 * i)) 0 (size_of values)

-- what is left over after the bytes are fewer than five bits, all zero
record IsPadded (values : List ℕ) : Type 0 where
  few : left_over values < 5
  none : padding_of values ≡ 0

padded_from : (values : List ℕ) → is_badly_padded values ≡ false → IsPadded values
padded_from values well =
    let parts = or_parts _ _ well in
    record { few = leb-false 5 (left_over values) parts.0; none = eqb-true (padding_of values) 0 (not-false _ parts.1) }

padding_zero : (values : List ℕ) (place : ℕ) → IsPadded values → 8 * size_of values ≤ place → bit_of 5 values place ≡ 0
padding_zero values place padded behind =
    let few : length values * 5 % 8 < 5 = padded.few in
    ⊎_elim
    (λ (lt : place / 5 < length values).
    bit_is 5 values place (length values - 1) (place % 5) (omega arith) refl
    ∙ low_zero (get_or values (length values - 1) 0) (length values * 5 % 8) (5 - 1 - place % 5) padded.none (omega arith))
    (λ (ge : length values ≤ place / 5). bit_past 5 values place ge)
    (cases_lt (place / 5) (length values))

-- both are one row
row_of_bytes : (values : List ℕ) (place : ℕ) → IsPadded values → bit_of 8 (bytes_of values) place ≡ bit_of 5 values place
row_of_bytes values place padded =
    ⊎_elim
    (λ (lt : place / 8 < size_of values).
    bit_is 8 (bytes_of values) place (place / 8) (place % 8) refl refl
    ∙ ap (λ (x : ℕ). x / 2 ^ (8 - 1 - place % 8) % 2) (get_or-map-range_with_len (λ (i : ℕ). eight_bits values (8 * i)) 0 (size_of values) (place / 8) (place / 8) 0 lt (omega arith))
    ∙ byte_bit values (8 * (place / 8)) (place % 8) (omega arith)
    ∙ ap (λ (p : ℕ). bit_of 5 values p) (omega arith))
    (λ (ge : size_of values ≤ place / 8).
    bit_past 8 (bytes_of values) place (omega (arith, length_bytes values))
    ∙ sym (padding_zero values place padded (omega arith)))
    (cases_lt (place / 8) (size_of values))

-- ---- the values of bytes

value_fits : (bytes : List ℕ) (at : ℕ) → five_bits bytes at < 32
unfolding five_bits
value_fits bytes at =
    omega (arith, bit_below 8 bytes at, bit_below 8 bytes (at + 1), bit_below 8 bytes (at + 2), bit_below 8 bytes (at + 3), bit_below 8 bytes (at + 4))

value_bit : (bytes : List ℕ) (at j : ℕ) → j < 5 → five_bits bytes at / 2 ^ (5 - 1 - j) % 2 ≡ bit_of 8 bytes (at + j)
unfolding five_bits
value_bit bytes at j low =
    bit_of_five _ _ _ _ _ j (bit_below 8 bytes at) (bit_below 8 bytes (at + 1)) (bit_below 8 bytes (at + 2)) (bit_below 8 bytes (at + 3)) (bit_below 8 bytes (at + 4)) low
    ∙ fifth (λ (p : ℕ). bit_of 8 bytes p) at j low

pub length_values : (bytes : List ℕ) → length (values_of bytes) ≡ (length bytes * 8 + 4) / 5
length_values bytes = length-map-range_with_len (λ (i : ℕ). five_bits bytes (5 * i)) 0 ((length bytes * 8 + 4) / 5)

row_of_values : (bytes : List ℕ) (place : ℕ) → bit_of 5 (values_of bytes) place ≡ bit_of 8 bytes place
row_of_values bytes place =
    ⊎_elim
    (λ (lt : place / 5 < (length bytes * 8 + 4) / 5).
    bit_is 5 (values_of bytes) place (place / 5) (place % 5) refl refl
    ∙ ap (λ (x : ℕ). x / 2 ^ (5 - 1 - place % 5) % 2) (get_or-map-range_with_len (λ (i : ℕ). five_bits bytes (5 * i)) 0 ((length bytes * 8 + 4) / 5) (place / 5) (place / 5) 0 lt (omega arith))
    ∙ value_bit bytes (5 * (place / 5)) (place % 5) (omega arith)
    ∙ ap (λ (p : ℕ). bit_of 8 bytes p) (omega arith))
    (λ (ge : (length bytes * 8 + 4) / 5 ≤ place / 5).
    bit_past 5 (values_of bytes) place (omega (arith, length_values bytes))
    ∙ sym (bit_past 8 bytes place (omega arith)))
    (cases_lt (place / 5) ((length bytes * 8 + 4) / 5))

-- ---- and back

-- values of one row with bytes are those that are made of the bytes
same_values : (values bytes : List ℕ) → All (λ v. v < 32) values → length values ≡ (length bytes * 8 + 4) / 5 → ((place : ℕ) → bit_of 8 bytes place ≡ bit_of 5 values place) → values_of bytes ≡ values
unfolding five_bits
same_values values bytes small long row =
    let bit : (i j k : ℕ) → k / 5 ≡ i → k % 5 ≡ j → bit_of 8 bytes k ≡ get_or values i 0 / 2 ^ (5 - 1 - j) % 2 = λ i j k here there. row k ∙ bit_is 5 values k i j here there in
    sym (fill_by_all (λ (i : ℕ). five_bits bytes (5 * i)) values ((length bytes * 8 + 4) / 5) 0 long (λ i lt.
    let b0 = bit i 0 (5 * i) (omega arith) (omega arith) in
    let b1 = bit i 1 (5 * i + 1) (omega arith) (omega arith) in
    let b2 = bit i 2 (5 * i + 2) (omega arith) (omega arith) in
    let b3 = bit i 3 (5 * i + 3) (omega arith) (omega arith) in
    let b4 = bit i 4 (5 * i + 4) (omega arith) (omega arith) in
    sym ((λ k. 16 * b0 k + 8 * b1 k + 4 * b2 k + 2 * b3 k + b4 k) ∙ five_bits_of (get_or values i 0) (small i 0 (omega (arith, long, lt))))))

-- and bytes of one row with values are those that are made of the values
same_bytes : (values bytes : List ℕ) → All (λ b. b < 256) bytes → length bytes ≡ size_of values → ((place : ℕ) → bit_of 5 values place ≡ bit_of 8 bytes place) → bytes_of values ≡ bytes
unfolding eight_bits
same_bytes values bytes small long row =
    let bit : (i j k : ℕ) → k / 8 ≡ i → k % 8 ≡ j → bit_of 5 values k ≡ get_or bytes i 0 / 2 ^ (8 - 1 - j) % 2 = λ i j k here there. row k ∙ bit_is 8 bytes k i j here there in
    sym (fill_by_all (λ (i : ℕ). eight_bits values (8 * i)) bytes (size_of values) 0 long (λ i lt.
    let b0 = bit i 0 (8 * i) (omega arith) (omega arith) in
    let b1 = bit i 1 (8 * i + 1) (omega arith) (omega arith) in
    let b2 = bit i 2 (8 * i + 2) (omega arith) (omega arith) in
    let b3 = bit i 3 (8 * i + 3) (omega arith) (omega arith) in
    let b4 = bit i 4 (8 * i + 4) (omega arith) (omega arith) in
    let b5 = bit i 5 (8 * i + 5) (omega arith) (omega arith) in
    let b6 = bit i 6 (8 * i + 6) (omega arith) (omega arith) in
    let b7 = bit i 7 (8 * i + 7) (omega arith) (omega arith) in
    sym ((λ k. 128 * b0 k + 64 * b1 k + 32 * b2 k + 16 * b3 k + 8 * b4 k + 4 * b5 k + 2 * b6 k + b7 k) ∙ eight_bits_of (get_or bytes i 0) (small i 0 (omega (arith, long, lt))))))

pub values_of_bytes : (values : List ℕ) → All (λ v. v < 32) values → is_badly_padded values ≡ false → values_of (bytes_of values) ≡ values
values_of_bytes values small well =
    let padded = padded_from values well in
    let few : length values * 5 % 8 < 5 = padded.few in
    same_values values (bytes_of values) small (omega (arith, length_bytes values)) (λ place. row_of_bytes values place padded)

pub bytes_of_values : (bytes : List ℕ) → All (λ b. b < 256) bytes → bytes_of (values_of bytes) ≡ bytes
bytes_of_values bytes small = same_bytes (values_of bytes) bytes small (omega (arith, length_values bytes)) (row_of_values bytes)

pub size_of_values : (bytes : List ℕ) → size_of (values_of bytes) ≡ length bytes
size_of_values bytes = omega (arith, length_values bytes)

padded_values : (bytes : List ℕ) → IsPadded (values_of bytes)
padded_values bytes =
    let long = length_values bytes in
    let few : left_over (values_of bytes) < 5 = omega (arith, long) in
    let last = length (values_of bytes) - 1 in
    record {
      few = few;
      none = zero_low (get_or (values_of bytes) last 0) (left_over (values_of bytes)) (λ k lt.
          ap (λ (e : ℕ). get_or (values_of bytes) last 0 / 2 ^ e % 2) (omega arith)
          ∙ sym (bit_is 5 (values_of bytes) (5 * last + (4 - k)) last (4 - k) (omega arith) (omega arith))
          ∙ row_of_values bytes (5 * last + (4 - k))
          ∙ bit_past 8 bytes (5 * last + (4 - k)) (omega (arith, long)));
    }

pub values_padded : (bytes : List ℕ) → is_badly_padded (values_of bytes) ≡ false
values_padded bytes = let padded = padded_values bytes in or_from _ _ (lt-leb 5 (left_over (values_of bytes)) padded.few) (not_from_true _ (eq-eqb (padding_of (values_of bytes)) 0 padded.none))

-- ---- their items

pub values_small : (bytes : List ℕ) → All (λ v. v < 32) (values_of bytes)
values_small bytes = λ i d lt.
    let n : i < (length bytes * 8 + 4) / 5 = omega (arith, lt, length_values bytes) in
    rw (get_or-map-range_with_len (λ (i : ℕ). five_bits bytes (5 * i)) 0 ((length bytes * 8 + 4) / 5) i i d n (omega arith)) (value_fits bytes (5 * i))

pub bytes_small : (values : List ℕ) → All (λ b. b < 256) (bytes_of values)
bytes_small values = λ i d lt.
    let n : i < size_of values = omega (arith, lt, length_bytes values) in
    rw (get_or-map-range_with_len (λ (i : ℕ). eight_bits values (8 * i)) 0 (size_of values) i i d n (omega arith)) (byte_fits values (8 * i))
