-- Words with a blank between them, and what tells two of them apart.
use Rattle.std.proofs.Common.{◌≡◌, ◌≢◌, ◌∙◌, ◌+◌, ◌*◌, ◌/◌, ◌^◌, ◌<◌, ◌≤◌, ◌==◌, ℕ, Bool, true, false, cond, List, [], ◌∷◌, ◌++◌, length, string_bytes, refl, sym, ap, subst, arith, inl, inr, ◌⊎◌, true≢false}
use Rattle.std.specs.Prelude.{All, nat_lt}
use Rattle.std.specs.declared.string.String.{String}
use Rattle.std.specs.Char.{digit_value}
use Rattle.std.specs.Fmt.{decimal}
use Rattle.std.specs.Int.{IsInRange}
use Rattle.std.specs.Str.Parse.{AllDigits, digits_value}
use Rattle.std.proofs.Math.Utf8.{encode, encodes, next, scalar, scalars, scalar_cases}
use Rattle.std.proofs.lemmas.Bool.{and_parts, eq-eqb, ltb-true}
use Rattle.std.proofs.lemmas.Fmt.{decimal_is_IsNumeral_wide}
use Rattle.std.proofs.lemmas.List.Elements.{All-append, All-cons, All-head, All-nil, All-tail}
use Rattle.std.proofs.lemmas.Str.{IsUtf8-string_bytes}

-- ---- the first word, as a number

-- the word before the first blank
abbrev pub word_number : List ℕ → ℕ
word_number [] = 0
word_number (c ∷ cs) = cond (c == 32) 0 (c + 256 * word_number cs)

-- texts of which some number differs aren't the same
pub apart_by : (number : List ℕ → ℕ) (a b : List ℕ) → (number a == number b) ≡ false → a ≢ b
apart_by number a b other same = true≢false (sym (eq-eqb (number a) (number b) (ap number same)) ∙ other)

-- nor are texts that begin with different words
pub differ : (a b : List ℕ) → (word_number a == word_number b) ≡ false → a ≢ b
differ a b other = apart_by word_number a b other

-- ---- words without a blank

abbrev pub NoBlank : List ℕ → Type 0
NoBlank [] = Unit {0}
NoBlank (c ∷ cs) = (c ≢ 32) × NoBlank cs

-- where both begin with a word and a blank, the words are the same, and what follows is
pub peel : (u v r s : List ℕ) → NoBlank u → NoBlank v → u ++ (32 ∷ r) ≡ v ++ (32 ∷ s) → (u ≡ v) × (r ≡ s)
peel [] [] r s a b e = (refl, cc)
peel [] (y ∷ v) r s a b e = let same : y ≡ 32 = cc in absurd (b.0 same)
peel (x ∷ u) [] r s a b e = let same : x ≡ 32 = cc in absurd (a.0 same)
peel (x ∷ u) (y ∷ v) r s a b e =
    let here : x ≡ y = cc in
    let later : u ++ (32 ∷ r) ≡ v ++ (32 ∷ s) = cc in
    let rest = peel u v r s a.1 b.1 later in
    (ap (λ (c : ℕ). c ∷ u) here ∙ ap (λ (l : List ℕ). y ∷ l) rest.0, rest.1)

-- where both begin with texts of one length, these are the same, and what follows is
pub peel_long : (u v r s : List ℕ) → length u ≡ length v → u ++ r ≡ v ++ s → (u ≡ v) × (r ≡ s)
peel_long [] [] r s long e = (refl, e)
peel_long [] (y ∷ v) r s long e = absurd (omega arith)
peel_long (x ∷ u) [] r s long e = absurd (omega arith)
peel_long (x ∷ u) (y ∷ v) r s long e =
    let here : x ≡ y = cc in
    let later : u ++ r ≡ v ++ s = cc in
    let rest = peel_long u v r s (omega arith) later in
    (ap (λ (c : ℕ). c ∷ u) here ∙ ap (λ (l : List ℕ). y ∷ l) rest.0, rest.1)

-- behind the same front stands the same
pub after : (u r s : List ℕ) → u ++ r ≡ u ++ s → r ≡ s
after [] r s e = e
after (x ∷ u) r s e = let later : u ++ r ≡ u ++ s = cc in after u r s later

-- ---- numbers

digits_plain : (ds : List ℕ) → AllDigits 10 ds → NoBlank ds
digits_plain [] all = tt
digits_plain (c ∷ cs) all = (plain, digits_plain cs all.1)
  where
    plain : c ≢ 32
    plain is = let digit : 36 < 10 = subst (λ (x : ℕ). digit_value x < 10) is all.0 in absurd (omega arith)

pub decimal_plain : (n : ℕ) → n < 2 ^ 128 → NoBlank (decimal n)
decimal_plain n small = digits_plain (decimal n) (decimal_is_IsNumeral_wide n (omega arith)).0.1

pub decimal_apart : (m n : ℕ) → m < 2 ^ 128 → n < 2 ^ 128 → decimal m ≡ decimal n → m ≡ n
decimal_apart m n m_small n_small e =
    sym (decimal_is_IsNumeral_wide m (omega arith)).1 ∙ ap (λ (l : List ℕ). digits_value 10 l) e ∙ (decimal_is_IsNumeral_wide n (omega arith)).1

-- ---- texts

-- the bytes of a character
abbrev P : ℕ → Type 0
P b = b < 256

encode_bytes : (c : ℕ) → scalar c ≡ true → All (λ (b : ℕ). b < 256) (encode c)
unfolding encode
encode_bytes c is = by (nat_lt c 128) refl (nat_lt c 2048) refl (nat_lt c 65536) refl (scalar_cases c is)
  where
    later : (bits : ℕ) → next bits < 256
    later bits = omega arith

    most : (c < 55296) ⊎ ((57344 ≤ c) × (c < 1114112)) → c < 1114112
    most (inl low) = omega arith
    most (inr high) = high.1

    by : (x : Bool) → nat_lt c 128 ≡ x → (y : Bool) → nat_lt c 2048 ≡ y → (z : Bool) → nat_lt c 65536 ≡ z → (c < 55296) ⊎ ((57344 ≤ c) × (c < 1114112))
        → All (λ (b : ℕ). b < 256) (cond x (c ∷ []) (cond y ((192 + c / 64) ∷ next c ∷ []) (cond z ((224 + c / 4096) ∷ next (c / 64) ∷ next c ∷ []) ((240 + c / 262144) ∷ next (c / 4096) ∷ next (c / 64) ∷ next c ∷ []))))
    by true one y two z three range =
        let small : c < 128 = ltb-true c 128 one in
        All-cons P c [] (omega arith) (All-nil P)
    by false one true two z three range =
        let small : c < 2048 = ltb-true c 2048 two in
        All-cons P (192 + c / 64) (next c ∷ []) (omega arith) (All-cons P (next c) [] (later c) (All-nil P))
    by false one false two true three range =
        let small : c < 65536 = ltb-true c 65536 three in
        All-cons P (224 + c / 4096) (next (c / 64) ∷ next c ∷ []) (omega arith)
        (All-cons P (next (c / 64)) (next c ∷ []) (later (c / 64)) (All-cons P (next c) [] (later c) (All-nil P)))
    by false one false two false three range =
        let small : c < 1114112 = most range in
        All-cons P (240 + c / 262144) (next (c / 4096) ∷ next (c / 64) ∷ next c ∷ []) (omega arith)
        (All-cons P (next (c / 4096)) (next (c / 64) ∷ next c ∷ []) (later (c / 4096))
        (All-cons P (next (c / 64)) (next c ∷ []) (later (c / 64)) (All-cons P (next c) [] (later c) (All-nil P))))

text_bytes : (cs : List ℕ) → scalars cs ≡ true → All (λ (b : ℕ). b < 256) (encodes cs)
text_bytes [] is = All-nil (λ (b : ℕ). b < 256)
text_bytes (c ∷ cs) is =
    let parts = and_parts (scalar c) (scalars cs) is in
    All-append (λ (b : ℕ). b < 256) (encode c) (encodes cs) (encode_bytes c parts.0) (text_bytes cs parts.1)

pub name_bytes : {Z : Type 0} (name : String Z) → All (λ (b : ℕ). b < 256) (string_bytes name)
name_bytes name = let is = IsUtf8-string_bytes name in subst (λ (l : List ℕ). All (λ (b : ℕ). b < 256) l) is.1.1 (text_bytes is.0 is.1.0)

pub printable_plain : (text : List ℕ) → All (IsInRange 33 126) text → NoBlank text
printable_plain [] all = tt
printable_plain (c ∷ cs) all = (plain (All-head (IsInRange 33 126) c cs all), printable_plain cs (All-tail (IsInRange 33 126) c cs all))
  where
    plain : IsInRange 33 126 c → c ≢ 32
    plain range is = let least = range.0 in omega arith
