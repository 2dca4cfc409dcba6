-- Shown names: what their bytes are, and that they differ where the names do.
use Rattle.std.proofs.Common.{◌≡◌, ◌≢◌, ◌∙◌, ◌/◌, ◌%◌, ◌<◌, ℕ, Bool, true, false, List, [], ◌∷◌, ◌++◌, slice_index, Some, if◌then◌else◌, refl, sym, ap, subst, arith, inl, inr}
use Rattle.std.specs.Prelude.{All, IsTrue, nat_le, not, ◌==◌}
use Rattle.std.specs.Char.{is_ascii_graphic}
use Rattle.std.specs.Int.{IsInRange, is_in_range}
use Rattle.std.specs.List.{flat_map}
use Rattle.std.proofs.lemmas.Bool.{and_parts, cases_Bool, leb-true, false≢true}
use Rattle.std.proofs.lemmas.List.Elements.{All-append, All-cons, All-nil, All-head, All-tail}
use Rattle.std.proofs.lemmas.List.Sums.{AllPass-from_list_all}
use Rattle.hex.specs.Hex.{encode_with, encode_lower, lower_digits, hex_digit_value}
use Rattle.hex.proofs.HexLemmas.{IsDigits-lower_digits}
use Rattle.command_end.specs.Name.{shown_byte, shown_name, stands_plain}

-- the test of a range shows that the byte is in it
in_range : (byte : ℕ) → is_in_range 33 126 byte ≡ true → IsInRange 33 126 byte
in_range byte h =
    let parts = and_parts (nat_le 33 byte) (nat_le byte 126) h in
    (leb-true 33 byte parts.0, leb-true byte 126 parts.1)

-- a hex digit is printable
digit_printable : (d : ℕ) → d < 16 → IsInRange 33 126 (slice_index lower_digits d)
digit_printable d lt =
    in_range (slice_index lower_digits d) (AllPass-from_list_all (λ (c : ℕ). is_in_range 33 126 c) lower_digits refl d 0 lt)

-- two hex digits that are the same stand for the same number
digit_injective : (c d : ℕ) → c < 16 → d < 16 → slice_index lower_digits c ≡ slice_index lower_digits d → c ≡ d
digit_injective c d c_lt d_lt e =
    let same : Some c ≡ Some d = sym (IsDigits-lower_digits c c_lt) ∙ ap hex_digit_value e ∙ IsDigits-lower_digits d d_lt in
    cc

-- a byte that stands as it is
shown_plain : (byte : ℕ) → stands_plain byte ≡ true → shown_byte byte ≡ byte ∷ []
shown_plain byte h = ap (λ (plain : Bool). if plain then byte ∷ [] else 92 ∷ 120 ∷ encode_lower (byte ∷ [])) h

-- a byte that is written by its digits
shown_escaped : (byte : ℕ) → stands_plain byte ≡ false → shown_byte byte ≡ 92 ∷ 120 ∷ slice_index lower_digits (byte / 16) ∷ slice_index lower_digits (byte % 16) ∷ []
unfolding encode_with
shown_escaped byte h = ap (λ (plain : Bool). if plain then byte ∷ [] else 92 ∷ 120 ∷ encode_lower (byte ∷ [])) h

plain_printable : (byte : ℕ) → stands_plain byte ≡ true → IsInRange 33 126 byte
plain_printable byte h = in_range byte (and_parts (is_ascii_graphic byte) (not (byte == 92)) h).0

escaped_printable : (byte : ℕ) → byte < 256 → All (IsInRange 33 126) (92 ∷ 120 ∷ slice_index lower_digits (byte / 16) ∷ slice_index lower_digits (byte % 16) ∷ [])
escaped_printable byte lt =
    let P : ℕ → Type 0 = IsInRange 33 126 in
    let high = slice_index lower_digits (byte / 16) in
    let low = slice_index lower_digits (byte % 16) in
    All-cons P 92 (120 ∷ high ∷ low ∷ []) (omega arith, omega arith)
    (All-cons P 120 (high ∷ low ∷ []) (omega arith, omega arith)
    (All-cons P high (low ∷ []) (digit_printable (byte / 16) (omega arith))
    (All-cons P low [] (digit_printable (byte % 16) (omega arith)) (All-nil P))))

byte_printable : (byte : ℕ) → byte < 256 → All (IsInRange 33 126) (shown_byte byte)
byte_printable byte lt =
    let P : List ℕ → Type 0 = λ l. All (IsInRange 33 126) l in
    elim (cases_Bool (stands_plain byte)) [
      | inl plain ↦ subst P (sym (shown_plain byte plain)) (All-cons (IsInRange 33 126) byte [] (plain_printable byte plain) (All-nil (IsInRange 33 126)))
      | inr other ↦ subst P (sym (shown_escaped byte other)) (escaped_printable byte lt)
    ]

pub printable : (name : List ℕ) → All (λ (byte : ℕ). byte < 256) name → All (IsInRange 33 126) (shown_name name)
unfolding shown_name
printable [] bytes = All-nil (IsInRange 33 126)
printable (byte ∷ name) bytes =
    All-append (IsInRange 33 126) (shown_byte byte) (flat_map shown_byte name)
    (byte_printable byte (All-head (λ (b : ℕ). b < 256) byte name bytes))
    (printable name (All-tail (λ (b : ℕ). b < 256) byte name bytes))

-- of two bytes that stand as they are
plain_apart : (a b : ℕ) (s t : List ℕ) → stands_plain a ≡ true → stands_plain b ≡ true → shown_byte a ++ s ≡ shown_byte b ++ t → (a ≡ b) × (s ≡ t)
plain_apart a b s t a_plain b_plain e =
    let seen : a ∷ s ≡ b ∷ t = sym (ap (λ (l : List ℕ). l ++ s) (shown_plain a a_plain)) ∙ e ∙ ap (λ (l : List ℕ). l ++ t) (shown_plain b b_plain) in
    (cc, cc)

-- a byte that stands as it is does not begin as one that is written by its digits
mixed_apart : (a b : ℕ) (s t : List ℕ) → stands_plain a ≡ true → stands_plain b ≡ false → shown_byte a ++ s ≢ shown_byte b ++ t
mixed_apart a b s t plain other e =
    let seen : a ∷ s ≡ 92 ∷ 120 ∷ slice_index lower_digits (b / 16) ∷ slice_index lower_digits (b % 16) ∷ t =
    sym (ap (λ (l : List ℕ). l ++ s) (shown_plain a plain)) ∙ e ∙ ap (λ (l : List ℕ). l ++ t) (shown_escaped b other) in
    let is : a ≡ 92 = cc in
    let P : ℕ → Type 0 = λ x. stands_plain x ≡ true in
    false≢true (subst P is plain)

-- of two bytes that are written by their digits
escaped_apart : (a b : ℕ) (s t : List ℕ) → a < 256 → b < 256 → stands_plain a ≡ false → stands_plain b ≡ false → shown_byte a ++ s ≡ shown_byte b ++ t → (a ≡ b) × (s ≡ t)
escaped_apart a b s t a_lt b_lt a_other b_other e =
    let seen : 92 ∷ 120 ∷ slice_index lower_digits (a / 16) ∷ slice_index lower_digits (a % 16) ∷ s ≡ 92 ∷ 120 ∷ slice_index lower_digits (b / 16) ∷ slice_index lower_digits (b % 16) ∷ t =
    sym (ap (λ (l : List ℕ). l ++ s) (shown_escaped a a_other)) ∙ e ∙ ap (λ (l : List ℕ). l ++ t) (shown_escaped b b_other) in
    let high : slice_index lower_digits (a / 16) ≡ slice_index lower_digits (b / 16) = cc in
    let low : slice_index lower_digits (a % 16) ≡ slice_index lower_digits (b % 16) = cc in
    let same_high : a / 16 ≡ b / 16 = digit_injective (a / 16) (b / 16) (omega arith) (omega arith) high in
    let same_low : a % 16 ≡ b % 16 = digit_injective (a % 16) (b % 16) (omega arith) (omega arith) low in
    (omega arith, cc)

-- what is shown of a byte shows which it is, whatever stands after
byte_apart : (a b : ℕ) (s t : List ℕ) → a < 256 → b < 256 → shown_byte a ++ s ≡ shown_byte b ++ t → (a ≡ b) × (s ≡ t)
byte_apart a b s t a_lt b_lt e =
    elim (cases_Bool (stands_plain a)) [
      | inl a_plain ↦ elim (cases_Bool (stands_plain b)) [
        | inl b_plain ↦ plain_apart a b s t a_plain b_plain e
        | inr b_other ↦ absurd (mixed_apart a b s t a_plain b_other e)
      ]
      | inr a_other ↦ elim (cases_Bool (stands_plain b)) [
        | inl b_plain ↦ absurd (mixed_apart b a t s b_plain a_other (sym e))
        | inr b_other ↦ escaped_apart a b s t a_lt b_lt a_other b_other e
      ]
    ]

-- no byte is shown by nothing
byte_seen : (byte : ℕ) (s : List ℕ) → [] ≢ shown_byte byte ++ s
byte_seen byte s e =
    elim (cases_Bool (stands_plain byte)) [
      | inl plain ↦
          let seen : [] ≡ byte ∷ s = e ∙ ap (λ (l : List ℕ). l ++ s) (shown_plain byte plain) in
          cc
      | inr other ↦
          let seen : [] ≡ 92 ∷ 120 ∷ slice_index lower_digits (byte / 16) ∷ slice_index lower_digits (byte % 16) ∷ s = e ∙ ap (λ (l : List ℕ). l ++ s) (shown_escaped byte other) in
          cc
    ]

pub apart : (a b : List ℕ) → All (λ (byte : ℕ). byte < 256) a → All (λ (byte : ℕ). byte < 256) b → shown_name a ≡ shown_name b → a ≡ b
unfolding shown_name
apart [] [] a_bytes b_bytes e = refl
apart [] (b ∷ ys) a_bytes b_bytes e = absurd (byte_seen b (flat_map shown_byte ys) e)
apart (a ∷ xs) [] a_bytes b_bytes e = absurd (byte_seen a (flat_map shown_byte xs) (sym e))
apart (a ∷ xs) (b ∷ ys) a_bytes b_bytes e =
    let parts = byte_apart a b (flat_map shown_byte xs) (flat_map shown_byte ys) (All-head (λ (x : ℕ). x < 256) a xs a_bytes) (All-head (λ (x : ℕ). x < 256) b ys b_bytes) e in
    let rest : xs ≡ ys = apart xs ys (All-tail (λ (x : ℕ). x < 256) a xs a_bytes) (All-tail (λ (x : ℕ). x < 256) b ys b_bytes) parts.1 in
    let first : a ≡ b = parts.0 in
    cc

pub plain : (name : List ℕ) → All (λ (byte : ℕ). IsTrue (stands_plain byte)) name → shown_name name ≡ name
unfolding shown_name
plain [] stands = refl
plain (byte ∷ name) stands =
    ap (λ (l : List ℕ). l ++ flat_map shown_byte name) (shown_plain byte (All-head (λ (b : ℕ). IsTrue (stands_plain b)) byte name stands))
    ∙ ap (λ (l : List ℕ). byte ∷ l) (plain name (All-tail (λ (b : ℕ). IsTrue (stands_plain b)) byte name stands))
