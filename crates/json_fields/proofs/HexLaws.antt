-- Which texts are read as hex, by the value of each letter.
use Rattle.std.proofs.Common.{◌≡◌, ◌<◌, ◌≤◌, ◌+◌, ◌-◌, ◌*◌, ◌%◌, ◌==◌, ℕ, zero, suc, Bool, true, false, cond, ◌&&◌, ◌||◌, List, [], ◌∷◌, length, reverse, slice_index, get_or, nat_le, ◌⊎◌, inl, inr, Option, Some, None, is_some, Result, Ok, Err, option_and_then, refl, sym, ap, subst, ◌∙◌, true≢false, arith}
use Rattle.std.proofs.lemmas.Bool.{and_parts, cases_lt, eqb-true, leb-true}
use Rattle.std.proofs.lemmas.List.{length-reverse, reverse-reverse, get_or_default}
use Rattle.std.specs.Option.{ok_or}
use Rattle.std.specs.Result.{result_ok}
use Rattle.hex.specs.Hex.{decode_of, decode_pairs, decode_sized, digit_or_error, hex_digit_value, is_hex_digit, lower_digits, upper_digits, pair_value, ◌>>=◌}
use Rattle.hex.specs.declared.error.FromHexError.{FromHexError}
use Rattle.hex.proofs.HexLemmas.{IsDigits-lower_digits, IsDigits-upper_digits, decode_of-even, decode_of-ok, decode_of-digits, decode_sized-twice, decode_sized-ok}
use Rattle.hex.proofs.Pairs.{cons_byte, decode_pairs-ok_pair}
use Rattle.serde_json.specs.Data.{Data, null, boolean, number, string, array, object}
use Rattle.json_fields.specs.Fields.{hex_at, hash_in}
use Rattle.json_fields.specs.Rules.{IsHexDigit, IsHexByte, IsHexOf, IsHexString}
use Rattle.json_fields.specs.declared.fault.FieldFault.{FieldFault}
use Rattle.json_fields.specs.declared.fault.FieldFault.TheVariants.{Kind}

-- ---- digits

-- a test of each number below one
abbrev all_below : (ℕ → Bool) → ℕ → Bool
all_below p zero = true
all_below p (suc n) = p n && all_below p n

below_at : (p : ℕ → Bool) (n k : ℕ) → all_below p n ≡ true → k < n → p k ≡ true
below_at p zero k h lt = absurd (omega arith)
below_at p (suc n) k h lt =
    let parts = and_parts (p n) (all_below p n) h in
    elim (cases_lt k n) [
      | inl below ↦ below_at p n k parts.1 below
      | inr top ↦
          let e : k ≡ n = omega arith in
          rw e parts.0
    ]

or_right : (a b : Bool) → (a || b) ≡ true → a ≡ false → b ≡ true
or_right true b h e = absurd (true≢false e)
or_right false b h e = h

-- the tables, by numbers
low_place : (v : ℕ) → v < 10 → slice_index lower_digits v ≡ v + 48
low_place v lt = eqb-true _ _ (below_at (λ w. slice_index lower_digits w == w + 48) 10 v refl lt)

letter_place : (table : List ℕ) (first v : ℕ) → all_below (λ k. slice_index table (k + 10) == k + 10 + first) 6 ≡ true → 10 ≤ v → v < 16 → slice_index table v ≡ v + first
letter_place table first v test least most =
    let k : v - 10 + 10 ≡ v = omega arith in
    let at = eqb-true _ _ (below_at (λ w. slice_index table (w + 10) == w + 10 + first) 6 (v - 10) test (omega arith)) in
    rw k at at

-- the digit of a value that is read
pub digit_found : (letter value : ℕ) → hex_digit_value letter ≡ Some value → IsHexDigit letter value
digit_found letter value e = by (nat_le 65 letter && nat_le letter 70) refl (nat_le 97 letter && nat_le letter 102) refl (nat_le 48 letter && nat_le letter 57) refl e
  where
    by : (upper : Bool) → (nat_le 65 letter && nat_le letter 70) ≡ upper → (lower : Bool) → (nat_le 97 letter && nat_le letter 102) ≡ lower → (plain : Bool) → (nat_le 48 letter && nat_le letter 57) ≡ plain
        → cond upper (Some (letter - 55)) (cond lower (Some (letter - 87)) (cond plain (Some (letter - 48)) None)) ≡ Some value → IsHexDigit letter value
    by true is lower l plain p reads =
        let parts = and_parts (nat_le 65 letter) (nat_le letter 70) is in
        let least = leb-true 65 letter parts.0 in
        let most = leb-true letter 70 parts.1 in
        let same : letter - 55 ≡ value = cc reads in
        let at = letter_place upper_digits 55 value refl (omega arith) (omega arith) in
        (omega arith, inr (omega arith))
    by false u true is plain p reads =
        let parts = and_parts (nat_le 97 letter) (nat_le letter 102) is in
        let least = leb-true 97 letter parts.0 in
        let most = leb-true letter 102 parts.1 in
        let same : letter - 87 ≡ value = cc reads in
        let at = letter_place lower_digits 87 value refl (omega arith) (omega arith) in
        (omega arith, inl (omega arith))
    by false u false l true is reads =
        let parts = and_parts (nat_le 48 letter) (nat_le letter 57) is in
        let least = leb-true 48 letter parts.0 in
        let most = leb-true letter 57 parts.1 in
        let same : letter - 48 ≡ value = cc reads in
        let at = low_place value (omega arith) in
        (omega arith, inl (omega arith))
    by false u false l false p reads = absurd (cc reads)

pub digit_only : (letter value : ℕ) → IsHexDigit letter value → hex_digit_value letter ≡ Some value
digit_only letter value is = by is.1
  where
    by : (letter ≡ slice_index lower_digits value) ⊎ (letter ≡ slice_index upper_digits value) → hex_digit_value letter ≡ Some value
    by (inl lower) = ap hex_digit_value lower ∙ IsDigits-lower_digits value is.0
    by (inr upper) = ap hex_digit_value upper ∙ IsDigits-upper_digits value is.0

-- ---- bytes

byte_found : (first second i byte : ℕ) → pair_value first second i ≡ Ok byte → IsHexByte first second byte
byte_found first second i byte e = by (hex_digit_value first) refl (hex_digit_value second) refl e
  where
    by : (h : Option ℕ) → hex_digit_value first ≡ h → (l : Option ℕ) → hex_digit_value second ≡ l → (digit_or_error first i h >>= λ x. digit_or_error second (i + 1) l >>= λ y. Ok (x * 16 + y)) ≡ Ok byte → IsHexByte first second byte
    by None high l low reads = absurd (cc reads)
    by (Some h) high None low reads = absurd (cc reads)
    by (Some h) high (Some l) low reads =
        let same : h * 16 + l ≡ byte = cc reads in
        record { high = h; low = l; sixteens = digit_found first h high; ones = digit_found second l low; value = omega arith }

byte_only : (first second i byte : ℕ) → IsHexByte first second byte → pair_value first second i ≡ Ok byte
byte_only first second i byte is =
    let high = digit_only first is.high is.sixteens in
    let low = digit_only second is.low is.ones in
    let value = is.value in
    let same : is.high * 16 + is.low ≡ byte = omega arith in
    rw (high, low) (ap Ok same)

-- ---- texts

abbrev Each : List ℕ → List ℕ → Type 0
Each text bytes = (k : ℕ) → k < length bytes → IsHexByte (slice_index text (2 * k)) (slice_index text (2 * k + 1)) (slice_index bytes k)

-- one byte more in front
more : (a b byte : ℕ) (text bytes : List ℕ) → IsHexByte a b byte → Each text bytes → Each (a ∷ b ∷ text) (byte ∷ bytes)
more a b byte text bytes is each zero lt = is
more a b byte text bytes is each (suc k) lt =
    let first : 2 * suc k ≡ suc (suc (2 * k)) = omega arith in
    let second : 2 * suc k + 1 ≡ suc (suc (2 * k + 1)) = omega arith in
    rw (second, first) (each k (omega arith))

-- one byte less
less : (a b byte : ℕ) (text bytes : List ℕ) → Each (a ∷ b ∷ text) (byte ∷ bytes) → Each text bytes
less a b byte text bytes each k lt =
    let first : 2 * suc k ≡ suc (suc (2 * k)) = omega arith in
    let second : 2 * suc k + 1 ≡ suc (suc (2 * k + 1)) = omega arith in
    rw (second, first) at (each (suc k) (omega arith))

pairs_found : (i : ℕ) (text bytes : List ℕ) → decode_pairs i text ≡ Ok bytes → IsHexOf text bytes
unfolding decode_pairs
pairs_found i [] bytes e = let same : [] ≡ bytes = cc e in subst (λ bs. IsHexOf [] bs) same (record { len = refl; each = λ k lt. absurd (omega arith) })
pairs_found i (a ∷ []) bytes e = absurd (cc e)
pairs_found i (a ∷ b ∷ rest) bytes e = by (pair_value a b i) refl (decode_pairs (i + 2) rest) refl e (λ xs. pairs_found (i + 2) rest xs)
  where
    by : (p : Result ℕ FromHexError) → pair_value a b i ≡ p → (r : Result (List ℕ) FromHexError) → decode_pairs (i + 2) rest ≡ r → (p >>= λ x. r >>= λ xs. Ok (x ∷ xs)) ≡ Ok bytes → ((xs : List ℕ) → decode_pairs (i + 2) rest ≡ Ok xs → IsHexOf rest xs) → IsHexOf (a ∷ b ∷ rest) bytes
    by (Err f) pair r later reads behind = absurd (cc reads)
    by (Ok x) pair (Err f) later reads behind = absurd (cc reads)
    by (Ok x) pair (Ok xs) later reads behind =
        let same : x ∷ xs ≡ bytes = cc reads in
        let is = behind xs later in
        let len = is.len in
        subst (λ bs. IsHexOf (a ∷ b ∷ rest) bs) same (record { len = omega arith; each = more a b x rest xs (byte_found a b i x pair) is.each })

pairs_only : (i : ℕ) (text bytes : List ℕ) → length text ≡ 2 * length bytes → Each text bytes → decode_pairs i text ≡ Ok bytes
unfolding decode_pairs
pairs_only i [] [] len each = refl
pairs_only i [] (x ∷ xs) len each = absurd (omega arith)
pairs_only i (a ∷ []) bytes len each = absurd (omega arith)
pairs_only i (a ∷ b ∷ rest) [] len each = absurd (omega arith)
pairs_only i (a ∷ b ∷ rest) (x ∷ xs) len each =
    decode_pairs-ok_pair i a b x rest (byte_only a b i x (each zero (omega arith)))
    ∙ ap (cons_byte x) (pairs_only (i + 2) rest xs (omega arith) (less a b x rest xs each))

pub decoded : (text bytes : List ℕ) → decode_of text ≡ Ok bytes → IsHexOf text bytes
decoded text bytes e = pairs_found 0 text bytes (sym (decode_of-even text (decode_of-ok text bytes e).0) ∙ e)

pub decodes : (text bytes : List ℕ) → IsHexOf text bytes → decode_of text ≡ Ok bytes
decodes text bytes is = let len = is.len in decode_of-even text (omega arith) ∙ pairs_only 0 text bytes is.len is.each

-- the same into room for so many bytes
pub decoded_sized : (text bytes : List ℕ) (n : ℕ) → decode_sized text n ≡ Ok bytes → (length bytes ≡ n) × IsHexOf text bytes
decoded_sized text bytes n e =
    let long = decode_sized-ok text n bytes e in
    let is = decoded text bytes (sym (decode_sized-twice text n long) ∙ e) in
    let len = is.len in
    (omega arith, is)

pub decodes_sized : (text bytes : List ℕ) (n : ℕ) → length bytes ≡ n → IsHexOf text bytes → decode_sized text n ≡ Ok bytes
decodes_sized text bytes n size is = let len = is.len in decode_sized-twice text n (omega arith) ∙ decodes text bytes is

pub all_digits : (text : List ℕ) → length text % 2 ≡ 0 → ((k : ℕ) → k < length text → (value : ℕ) × IsHexDigit (slice_index text k) value) → (bytes : List ℕ) × IsHexOf text bytes
all_digits text even each =
    let r = decode_of-digits text even (λ k d lt. passes k d lt) in
    (r.0, decoded text r.0 r.1)
  where
    passes : (k d : ℕ) → k < length text → is_hex_digit (get_or text k d) ≡ true
    passes k d lt = let v = each k lt in ap is_some (digit_only (get_or text k d) v.0 (subst (λ c. IsHexDigit c v.0) (get_or_default text k 0 d lt) v.1))

-- ---- values

string_found : (name text bytes : List ℕ) → hex_at name (string text) ≡ Ok bytes → IsHexOf text bytes
unfolding hex_at
string_found name text bytes e = by (decode_of text) refl e
  where
    by : (r : Result (List ℕ) FromHexError) → decode_of text ≡ r → ok_or (result_ok r) (Kind name) ≡ Ok bytes → IsHexOf text bytes
    by (Ok bs) is reads = let same : bs ≡ bytes = cc reads in decoded text bytes (is ∙ ap Ok same)
    by (Err f) is reads = absurd (cc reads)

pub found : (name bytes : List ℕ) (d : Data) → hex_at name d ≡ Ok bytes → IsHexString d bytes
unfolding hex_at
found name bytes (string text) e = (text, refl, string_found name text bytes e)
found name bytes null e = absurd (cc e)
found name bytes (boolean b) e = absurd (cc e)
found name bytes (number n) e = absurd (cc e)
found name bytes (array ds) e = absurd (cc e)
found name bytes (object ms) e = absurd (cc e)

string_only : (name text bytes : List ℕ) → IsHexOf text bytes → hex_at name (string text) ≡ Ok bytes
unfolding hex_at
string_only name text bytes is = rw (decodes text bytes is) refl

pub only : (name bytes : List ℕ) (d : Data) → IsHexString d bytes → hex_at name d ≡ Ok bytes
only name bytes d is = ap (hex_at name) is.1 ∙ string_only name is.0 bytes is.2

kind : (name : List ℕ) (d : Data) (fault : FieldFault) → hex_at name d ≡ Err fault → fault ≡ Kind name
unfolding hex_at
kind name (string text) fault e = by (decode_of text) e
  where
    by : (r : Result (List ℕ) FromHexError) → ok_or (result_ok r) (Kind name) ≡ Err fault → fault ≡ Kind name
    by (Ok bs) reads = absurd (cc reads)
    by (Err f) reads = cc reads
kind name null fault e = cc e
kind name (boolean b) fault e = cc e
kind name (number n) fault e = cc e
kind name (array ds) fault e = cc e
kind name (object ms) fault e = cc e

pub refused : (name : List ℕ) (d : Data) (fault : FieldFault) → hex_at name d ≡ Err fault → (fault ≡ Kind name) × ((bytes : List ℕ) → ¬ IsHexString d bytes)
refused name d fault e = (kind name d fault e, λ bytes is. let reads = only name bytes d is in cc (reads, e))

-- ---- hashes

pub hash_found : (text hash : List ℕ) → hash_in text ≡ Some hash → (length hash ≡ 32) × IsHexOf text (reverse hash)
unfolding hash_in
hash_found text hash e = by (decode_sized text 32) refl e
  where
    by : (r : Result (List ℕ) FromHexError) → decode_sized text 32 ≡ r → option_and_then (λ bytes. Some (reverse bytes)) (result_ok r) ≡ Some hash → (length hash ≡ 32) × IsHexOf text (reverse hash)
    by (Ok bytes) is reads =
        let all = decoded_sized text bytes 32 is in
        let same : reverse bytes ≡ hash = cc reads in
        let turned : bytes ≡ reverse hash = sym (reverse-reverse bytes) ∙ ap reverse same in
        (ap length (sym same) ∙ length-reverse bytes ∙ all.0, subst (λ bs. IsHexOf text bs) turned all.1)
    by (Err f) is reads = absurd (cc reads)

pub hash_only : (text hash : List ℕ) → length hash ≡ 32 → IsHexOf text (reverse hash) → hash_in text ≡ Some hash
unfolding hash_in
hash_only text hash size is =
    ap (λ r. option_and_then (λ bytes. Some (reverse bytes)) (result_ok r)) (decodes_sized text (reverse hash) 32 (length-reverse hash ∙ size) is) ∙ ap Some (reverse-reverse hash)
