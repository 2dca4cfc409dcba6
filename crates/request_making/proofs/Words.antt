-- What the words of units begin with: neither a digit nor a point.
use Rattle.std.proofs.Common.{◌≡◌, ℕ, ◌≤◌, Bool, true, false, cond, List, [], ◌∷◌, length, get_or, map, Some, None, refl, ap, arith, inl, inr, eqb}
use Rattle.std.specs.Prelude.{◌⊎◌, bytes_eq, codes, ◌||◌}
use Rattle.std.proofs.Math.Dec.{eqb-suc-zero}
use Rattle.std.specs.Char.{is_ascii_digit, to_ascii_lowercase}
use Rattle.std.proofs.lemmas.Bool.Decides.{nat_tests}
use Rattle.std.proofs.lemmas.Slice.Eq.{bytes_eq-Decides}
use Rattle.std.proofs.lemmas.Str.Ascii.{lowercase_is}
use Rattle.request_making.specs.Units.{places_of, amount_places, rate_places, is_word}
use Rattle.request_making.specs.declared.unit.Kind.{Kind}
use Rattle.request_making.specs.declared.unit.Kind.TheVariants.{Amount, Rate}

-- a text begins with neither
pub record BeginsUnit (unit : List ℕ) : Type 0 where
  pub no_digit : is_ascii_digit (get_or unit 0 0) ≡ false
  pub no_point : get_or unit 0 0 ≡ 46 → ⊥

-- a letter that in lower case is a blank or above the digits is neither digit nor point
apart : (x : ℕ) → (to_ascii_lowercase x ≡ 32) ⊎ (97 ≤ to_ascii_lowercase x) → 46 ≤ x → x ≤ 57 → ⊥
apart x (inl blank) low high = omega (arith, blank, low, high, (lowercase_is x).1 (omega (arith, high)))
apart x (inr above) low high = omega (arith, above, low, high, (lowercase_is x).1 (omega (arith, high)))

no_digit_if : (b : Bool) (x : ℕ) → is_ascii_digit x ≡ b → (46 ≤ x → x ≤ 57 → ⊥) → b ≡ false
no_digit_if false x e never = refl
no_digit_if true x e never = absurd (never (let low : 48 ≤ x = grind (arith, nat_tests) in omega (arith, low)) (let high : x ≤ 57 = grind (arith, nat_tests) in high))

begins_unit : (x : ℕ) (xs : List ℕ) → (to_ascii_lowercase x ≡ 32) ⊎ (97 ≤ to_ascii_lowercase x) → BeginsUnit (x ∷ xs)
begins_unit x xs h = record { no_digit = no_digit_if (is_ascii_digit x) x refl (apart x h); no_point = λ e. apart x h (omega (arith, e)) (omega (arith, e)) }

-- the first letter of the word
pub word_begins : (word : List ℕ) (x : ℕ) (xs : List ℕ) → 97 ≤ get_or word 0 0 → is_word word (x ∷ xs) ≡ true → BeginsUnit (x ∷ xs)
word_begins word x xs high holds = by (bytes_eq (map to_ascii_lowercase (x ∷ xs)) word) refl holds
  where
    by : (b : Bool) → bytes_eq (map to_ascii_lowercase (x ∷ xs)) word ≡ b → (b || bytes_eq (map to_ascii_lowercase (x ∷ xs)) (32 ∷ word)) ≡ true → BeginsUnit (x ∷ xs)
    by true e t =
        let same = ap (λ (l : List ℕ). get_or l 0 0) ((bytes_eq-Decides (map to_ascii_lowercase (x ∷ xs)) word).0 e) in
        begins_unit x xs (inr (omega (arith, same, high)))
    by false e t =
        let same = ap (λ (l : List ℕ). get_or l 0 0) ((bytes_eq-Decides (map to_ascii_lowercase (x ∷ xs)) (32 ∷ word)).0 t) in
        begins_unit x xs (inl same)

nonempty : (x : ℕ) (xs : List ℕ) → eqb (length (x ∷ xs)) 0 ≡ false
nonempty x xs = eqb-suc-zero (length xs)

amount_begins : (pointed : Bool) (unit : List ℕ) (places : ℕ) → amount_places pointed unit ≡ Some places → BeginsUnit unit
amount_begins pointed [] places e = record { no_digit = refl; no_point = λ e. omega (arith, e) }
amount_begins pointed (x ∷ xs) places e = by (is_word (codes "sat") (x ∷ xs)) (is_word (codes "btc") (x ∷ xs)) refl refl (rw (nonempty x xs) at e)
  where
    by : (s b : Bool) → is_word (codes "sat") (x ∷ xs) ≡ s → is_word (codes "btc") (x ∷ xs) ≡ b → cond s (Some 0) (cond b (Some 8) None) ≡ Some places → BeginsUnit (x ∷ xs)
    by true b sat btc e = word_begins (codes "sat") x xs (omega arith) sat
    by false true sat btc e = word_begins (codes "btc") x xs (omega arith) btc
    by false false sat btc e = cc

rate_begins : (unit : List ℕ) (places : ℕ) → rate_places unit ≡ Some places → BeginsUnit unit
rate_begins [] places e = record { no_digit = refl; no_point = λ e. omega (arith, e) }
rate_begins (x ∷ xs) places e = by (is_word (codes "sat/vb") (x ∷ xs)) refl (rw (nonempty x xs) at e)
  where
    by : (s : Bool) → is_word (codes "sat/vb") (x ∷ xs) ≡ s → cond s (Some 3) None ≡ Some places → BeginsUnit (x ∷ xs)
    by true word e = word_begins (codes "sat/vb") x xs (omega arith) word
    by false word e = cc

pub unit_begins : (kind : Kind) (pointed : Bool) (unit : List ℕ) (places : ℕ) → places_of kind pointed unit ≡ Some places → BeginsUnit unit
unfolding places_of
unit_begins Amount pointed unit places e = amount_begins pointed unit places e
unit_begins Rate pointed unit places e = rate_begins unit places e
