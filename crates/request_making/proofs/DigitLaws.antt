-- The digits that a text begins with, and the number that they write.
use Rattle.std.proofs.Common.{◌≡◌, ℕ, zero, suc, ◌+◌, ◌*◌, ◌-◌, ◌^◌, ◌<◌, ◌≤◌, Bool, true, false, cond, List, [], ◌∷◌, ◌++◌, length, get_or, take, drop, refl, ◌∙◌, ap, arith, replicate}
use Rattle.std.specs.Char.{is_ascii_digit, digit_value}
use Rattle.std.specs.List.{prefix_len}
use Rattle.std.specs.Str.Parse.{AllDigits, digits_value}
use Rattle.std.proofs.lemmas.Bool.Decides.{nat_tests}
use Rattle.std.proofs.lemmas.List.{take_all}
use Rattle.std.proofs.lemmas.Str.{digit_value_digit}
use Rattle.std.proofs.lemmas.Str.Parse.{digit_at, digit_from_value, digits_value-take-le}
use Rattle.std.proofs.lemmas.Int.Digits.{digits_value_more}

-- a byte is a digit where its value as one is below ten
pub digit_from_test : (c : ℕ) → is_ascii_digit c ≡ true → digit_value c < 10
digit_from_test c holds =
    let low : 48 ≤ c = grind (arith, nat_tests) in
    let high : c ≤ 57 = grind (arith, nat_tests) in
    omega (arith, digit_value_digit c (low, high), low)

pub digit_tells : (c : ℕ) → digit_value c < 10 → is_ascii_digit c ≡ true
digit_tells c low = let r = digit_from_value c low in grind (arith, nat_tests)

-- the front that passes the test is all digits
one_plus : (n : ℕ) → 1 + n ≡ suc n
one_plus n = omega arith

front_step : (b : Bool) (c : ℕ) (cs : List ℕ) (n : ℕ) → is_ascii_digit c ≡ b → AllDigits 10 (take n cs) → AllDigits 10 (take (cond b (1 + n) 0) (c ∷ cs))
front_step true c cs n holds rest = rw (one_plus n) (digit_from_test c holds, rest)
front_step false c cs n fails rest = tt

pub front_digits : (text : List ℕ) → AllDigits 10 (take (prefix_len is_ascii_digit text) text)
front_digits [] = tt
front_digits (c ∷ cs) = front_step (is_ascii_digit c) c cs (prefix_len is_ascii_digit cs) refl (front_digits cs)

-- digits, and then what begins with none
pub front_len : (whole rest : List ℕ) → AllDigits 10 whole → is_ascii_digit (get_or rest 0 0) ≡ false → prefix_len is_ascii_digit (whole ++ rest) ≡ length whole
front_len [] [] digits fails = refl
front_len [] (c ∷ cs) digits fails = rw fails refl
front_len (c ∷ whole) rest digits fails = rw (digit_tells c digits.0, front_len whole rest digits.1 fails) (omega arith)

-- what stands behind the front begins with no digit
behind_step : (b : Bool) (c : ℕ) (cs : List ℕ) (n : ℕ) → is_ascii_digit c ≡ b → is_ascii_digit (get_or (drop n cs) 0 0) ≡ false → is_ascii_digit (get_or (drop (cond b (1 + n) 0) (c ∷ cs)) 0 0) ≡ false
behind_step true c cs n holds rest = rw (one_plus n) rest
behind_step false c cs n fails rest = fails

pub behind_front : (text : List ℕ) → is_ascii_digit (get_or (drop (prefix_len is_ascii_digit text) text) 0 0) ≡ false
behind_front [] = refl
behind_front (c ∷ cs) = behind_step (is_ascii_digit c) c cs (prefix_len is_ascii_digit cs) refl (behind_front cs)

-- zeros in front change no number
pub zeros_digits : (k : ℕ) (ds : List ℕ) → AllDigits 10 ds → AllDigits 10 (replicate k 48 ++ ds)
zeros_digits zero ds digits = digits
zeros_digits (suc k) ds digits = (omega arith, zeros_digits k ds digits)

pub zeros_value : (k : ℕ) (ds : List ℕ) → digits_value 10 (replicate k 48 ++ ds) ≡ digits_value 10 ds
zeros_value zero ds = refl
zeros_value (suc k) ds = zeros_value k ds

-- one digit more, of a number that has all those before it
pub digit_more : (digits : List ℕ) (i number next : ℕ) → i < length digits → AllDigits 10 digits → number ≡ digits_value 10 (take i digits) → next ≡ number * 10 + (get_or digits i 0 - 48) → next ≡ digits_value 10 (take (i + 1) digits)
digit_more digits i number next lt all is is_next =
    let r = digit_at digits i all lt in
    omega (arith, is, is_next, digit_value_digit (get_or digits i 0) r, digits_value_more 10 digits i lt)

-- a digit too many makes the whole number too great
pub digit_ends : (digits : List ℕ) (i number : ℕ) → i < length digits → AllDigits 10 digits → number ≡ digits_value 10 (take i digits) → (number * 10 + (get_or digits i 0 - 48) < 2 ^ 64 → ⊥) → digits_value 10 digits < 2 ^ 64 → ⊥
digit_ends digits i number lt all is refused small =
    let r = digit_at digits i all lt in
    refused (omega (arith, small, is, digit_value_digit (get_or digits i 0) r, digits_value_more 10 digits i lt, digits_value-take-le 10 digits (i + 1) (omega arith)))

-- behind the last digit the number is that of all
pub digits_end : (digits : List ℕ) (i number : ℕ) → length digits ≤ i → number < 2 ^ 64 → number ≡ digits_value 10 (take i digits) → (digits_value 10 digits < 2 ^ 64) × (number ≡ digits_value 10 digits)
digits_end digits i number past small is =
    let all : number ≡ digits_value 10 digits = is ∙ ap (digits_value 10) (take_all i digits past) in
    (omega (arith, all, small), all)
