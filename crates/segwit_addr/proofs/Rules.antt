-- The tests of addresses, and what each of them finds.
use Rattle.std.proofs.Common.{◌≡◌, ◌≢◌, ℕ, ◌<◌, ◌≤◌, Bool, false, not, List, [], ◌∷◌, map, length, get_or, sym, ◌∙◌, ap, refl, arith, inl, inr, codes}
use Rattle.std.specs.Prelude.{◌⊎◌, ◌==◌, ◌||◌, ◌&&◌, nat_lt, nat_le, bytes_eq, Any, Contains}
use Rattle.std.specs.Bool.{Decides}
use Rattle.std.specs.Char.{is_ascii_uppercase, is_ascii_lowercase}
use Rattle.std.specs.Int.{IsInRange, IsOutOfRange, is_in_range}
use Rattle.std.specs.List.{All, list_any}
use Rattle.std.proofs.lemmas.Bool.{cases_Bool, both_ways, true_from_ne_false, leb-true, leb-false, le-leb, ltb-false, le-ltb, or_parts}
use Rattle.std.proofs.lemmas.Bool.Decides.{Decides-eqb, Decides-ltb, Decides-not, Decides-and, Decides-or}
use Rattle.std.proofs.lemmas.List.{nil_from_length}
use Rattle.std.proofs.lemmas.List.Folds.{Any-from_list_any, list_any-from_Any, list_any_at, list_any_none}
use Rattle.std.proofs.lemmas.Slice.Eq.{bytes_eq-Decides}
use Rattle.segwit_addr.specs.Address.{has_lower, has_upper, is_mixed, is_refused}
use Rattle.segwit_addr.specs.Bech32.{alphabet, bech32_sum, bech32m_sum, value_of}
use Rattle.segwit_addr.specs.Judging.{HasBothCases, HasStranger, IsOtherSize, IsSized}
use Rattle.segwit_addr.specs.Reading.{char_count, has_outsider, has_unknown}
use Rattle.segwit_addr.proofs.Letters.{letter_valued, value_lettered}

-- ---- tests in general

-- a test that fails, where what it finds isn't so
pub not_found : {P : Type 0} (b : Bool) → Decides b P → (P → ⊥) → b ≡ false
not_found b d absent =
    elim (cases_Bool b) [
      | inl found ↦ absurd (absent (d.0 found))
      | inr fails ↦ fails
    ]

-- and what isn't so, where a test fails
pub not_so : {P : Type 0} (b : Bool) → Decides b P → b ≡ false → P → ⊥
not_so b d fails p = both_ways b fails (d.1 p)

any_decides : (p : ℕ → Bool) (P : ℕ → Type 0) → ((c : ℕ) → Decides (p c) (P c)) → (cs : List ℕ) → Decides (list_any p cs) (Any P cs)
any_decides p P each cs = (
  λ e. let a = Any-from_list_any p cs e in (a.0, a.1, a.2, a.3, (each a.1).0 a.4),
  λ a. list_any-from_Any p cs (a.0, a.1, a.2, a.3, (each a.1).1 a.4),
)

le_decides : (m n : ℕ) → Decides (nat_le m n) (m ≤ n)
le_decides m n = (leb-true m n, le-leb m n)

range_decides : (low high c : ℕ) → Decides (is_in_range low high c) (IsInRange low high c)
range_decides low high c = Decides-and _ _ (le_decides low c) (le_decides c high)

-- ---- the text

-- its length is refused
abbrev pub is_missized : List ℕ → Bool
is_missized text = nat_lt (length text) 8 || nat_lt 90 (length text)

pub sized_from : (text : List ℕ) → is_missized text ≡ false → IsSized text
sized_from text fails =
    let p = or_parts (nat_lt (length text) 8) (nat_lt 90 (length text)) fails in
    record { least = ltb-false (length text) 8 p.0; most = ltb-false 90 (length text) p.1 }

pub sized_test : (text : List ℕ) → IsSized text → is_missized text ≡ false
sized_test text s = rw (le-ltb (length text) 8 s.least, le-ltb 90 (length text) s.most) refl

pub case_decides : (text : List ℕ) → Decides (is_mixed text) (HasBothCases text)
unfolding has_upper has_lower
case_decides text =
    let upper = any_decides is_ascii_uppercase (IsInRange 65 90) (range_decides 65 90) text in
    let lower = any_decides is_ascii_lowercase (IsInRange 97 122) (range_decides 97 122) text in
    let both = Decides-and (list_any is_ascii_uppercase text) (list_any is_ascii_lowercase text) upper lower in
    (λ e. let b = both.0 e in record { upper = b.0; lower = b.1 }, λ h. both.1 (h.upper, h.lower))

-- ---- its parts

abbrev pub is_short : List ℕ → List ℕ → Bool
is_short prefix letters = length prefix == 0 || nat_lt (char_count letters) 7

pub short_decides : (prefix letters : List ℕ) → Decides (is_short prefix letters) ((prefix ≡ []) ⊎ (char_count letters < 7))
short_decides prefix letters =
    let none : Decides (length prefix == 0) (prefix ≡ []) = (λ e. nil_from_length prefix ((Decides-eqb (length prefix) 0).0 e), λ is. (Decides-eqb (length prefix) 0).1 (ap (λ (l : List ℕ). length l) is)) in
    Decides-or _ _ none (Decides-ltb (char_count letters) 7)

outside_decides : (prefix : List ℕ) → Decides (has_outsider prefix) (Any (IsOutOfRange 33 126) prefix)
unfolding has_outsider
outside_decides prefix = any_decides (λ c. nat_lt c 33 || nat_lt 126 c) (IsOutOfRange 33 126) (λ c. Decides-or _ _ (Decides-ltb c 33) (Decides-ltb 126 c)) prefix

abbrev pub is_valueless : ℕ → Bool
is_valueless c = nat_le 32 (value_of c)

valueless_decides : (c : ℕ) → Decides (is_valueless c) (Contains alphabet c → ⊥)
valueless_decides c = (
  λ e has. let high = leb-true 32 (value_of c) e in let low = letter_valued c has in omega arith,
  λ none. true_from_ne_false (is_valueless c) (λ fails. none (value_lettered c (leb-false 32 (value_of c) fails))),
)

pub values_any : (letters : List ℕ) → list_any (λ v. nat_le 32 v) (map value_of letters) ≡ list_any is_valueless letters
values_any [] = refl
values_any (c ∷ cs) = ap (λ (b : Bool). is_valueless c || b) (values_any cs)

unknown_decides : (letters : List ℕ) → Decides (has_unknown (map value_of letters)) (Any (λ c. Contains alphabet c → ⊥) letters)
unfolding has_unknown
unknown_decides letters =
    let d = any_decides is_valueless (λ c. Contains alphabet c → ⊥) valueless_decides letters in
    (λ e. d.0 (sym (values_any letters) ∙ e), λ a. values_any letters ∙ d.1 a)

abbrev pub has_stranger : List ℕ → List ℕ → Bool
has_stranger prefix letters = has_outsider prefix || has_unknown (map value_of letters)

pub stranger_decides : (prefix letters : List ℕ) → Decides (has_stranger prefix letters) (HasStranger prefix letters)
stranger_decides prefix letters = Decides-or (has_outsider prefix) (has_unknown (map value_of letters)) (outside_decides prefix) (unknown_decides letters)

-- a human-readable part of characters in 33 to 126
pub printable_from : (prefix : List ℕ) → has_outsider prefix ≡ false → All (IsInRange 33 126) prefix
unfolding has_outsider
printable_from prefix fails = λ i d lt.
    elim (cases_Bool (nat_lt (get_or prefix i d) 33 || nat_lt 126 (get_or prefix i d))) [
      | inl out ↦ absurd (both_ways _ fails (list_any_at (λ (c : ℕ). nat_lt c 33 || nat_lt 126 c) prefix i d lt out))
      | inr within ↦ let p = or_parts _ _ within in (ltb-false (get_or prefix i d) 33 p.0, ltb-false 126 (get_or prefix i d) p.1)
    ]

pub printable_test : (prefix : List ℕ) → All (IsInRange 33 126) prefix → has_outsider prefix ≡ false
unfolding has_outsider
printable_test prefix is = list_any_none (λ (c : ℕ). nat_lt c 33 || nat_lt 126 c) prefix (λ i d lt. let p = is i d lt in rw (le-ltb (get_or prefix i d) 33 p.0, le-ltb 126 (get_or prefix i d) p.1) refl)

-- ---- its checksum and what it says

abbrev pub is_unsealed : ℕ → Bool
is_unsealed sum = not (sum == bech32_sum) && not (sum == bech32m_sum)

pub sealed_decides : (sum : ℕ) → Decides (is_unsealed sum) ((sum ≢ bech32_sum) × (sum ≢ bech32m_sum))
sealed_decides sum = Decides-and _ _ (Decides-not _ (Decides-eqb sum bech32_sum)) (Decides-not _ (Decides-eqb sum bech32m_sum))

pub either_sum : (sum : ℕ) → is_unsealed sum ≡ false → (sum ≡ bech32_sum) ⊎ (sum ≡ bech32m_sum)
either_sum sum fails =
    elim (cases_Bool (sum == bech32_sum)) [
      | inl first ↦ inl ((Decides-eqb sum bech32_sum).0 first)
      | inr other ↦ elim (cases_Bool (sum == bech32m_sum)) [
        | inl second ↦ inr ((Decides-eqb sum bech32m_sum).0 second)
        | inr neither ↦ let f = rw (other, neither) at fails in absurd cc
      ]
    ]

pub sealed_test : (sum : ℕ) → (sum ≡ bech32_sum) ⊎ (sum ≡ bech32m_sum) → is_unsealed sum ≡ false
sealed_test sum either = elim either [ inl first ↦ rw first refl | inr second ↦ rw second refl ]

pub foreign_decides : (prefix : List ℕ) → Decides (not (bytes_eq prefix (codes "bc"))) (prefix ≢ codes "bc")
foreign_decides prefix = Decides-not _ (bytes_eq-Decides prefix (codes "bc"))

pub size_decides : (version size : ℕ) → Decides (is_refused version size) (IsOtherSize version size)
size_decides version size =
    Decides-or _ _ (Decides-or _ _ (Decides-ltb size 2) (Decides-ltb 40 size))
    (Decides-and _ _ (Decides-eqb version 0) (Decides-and _ _ (Decides-not _ (Decides-eqb size 20)) (Decides-not _ (Decides-eqb size 32))))
