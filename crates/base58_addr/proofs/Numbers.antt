-- Numbers read digit by digit, and written from the last digit on.
use Rattle.std.proofs.Common.{◌≡◌, ℕ, zero, suc, ◌+◌, ◌-◌, ◌*◌, ◌/◌, ◌%◌, ◌^◌, ◌<◌, ◌≤◌, List, [], ◌∷◌, ◌++◌, map, length, get_or, take, drop, sym, ◌∙◌, ap, refl, arith}
use Rattle.std.specs.Int.Digits.{number_from_digits, number_from_digits_after}
use Rattle.std.proofs.Math.ListN.{set}
use Rattle.std.proofs.Math.Nat.{mul_assoc, mul-le-mul_right, add-mul, mul_comm, pow-suc, pow-zero}
use Rattle.std.proofs.Math.Pow.{pow_mono}
use Rattle.std.proofs.Math.Seq.{take-suc}
use Rattle.std.proofs.lemmas.Nat.{div-add-mod', pow-add}
use Rattle.std.proofs.lemmas.List.{map-append, length-set, drop-set, take-append-drop}
use Rattle.std.proofs.lemmas.Int.Digits.{number_push, number_after_ge, number_after_append}
use Rattle.base58_addr.specs.Base58.{value_of}
use Rattle.base58_addr.specs.Rebasing.{joined}

-- ---- reading

-- one letter more
pub letters_more : (text : List ℕ) (i : ℕ) → i < length text → number_from_digits 58 (map value_of (take (i + 1) text)) ≡ number_from_digits 58 (map value_of (take i text)) * 58 + value_of (get_or text i 0)
letters_more text i low =
    let next : i + 1 ≡ suc i = omega arith in
    let row : map value_of (take (i + 1) text) ≡ map value_of (take i text) ++ value_of (get_or text i 0) ∷ [] =
    ap (λ (k : ℕ). map value_of (take k text)) next
    ∙ ap (λ (l : List ℕ). map value_of l) (take-suc text i 0 low)
    ∙ map-append value_of (take i text) (get_or text i 0 ∷ []) in
    ap (λ (l : List ℕ). number_from_digits 58 l) row ∙ number_push 58 (map value_of (take i text)) (value_of (get_or text i 0))

-- the number doesn't fall as letters follow
pub letters_rise : (text : List ℕ) (i : ℕ) → number_from_digits 58 (map value_of (take i text)) ≤ number_from_digits 58 (map value_of text)
letters_rise text i =
    let parts : map value_of (take i text) ++ map value_of (drop i text) ≡ map value_of text =
    sym (map-append value_of (take i text) (drop i text)) ∙ ap (λ (l : List ℕ). map value_of l) (take-append-drop i text) in
    let whole : number_from_digits 58 (map value_of text) ≡ number_from_digits_after 58 (number_from_digits 58 (map value_of (take i text))) (map value_of (drop i text)) =
    ap (λ (l : List ℕ). number_from_digits 58 l) (sym parts) ∙ number_after_append 58 0 (map value_of (take i text)) (map value_of (drop i text)) in
    omega (arith, whole, number_after_ge 58 (number_from_digits 58 (map value_of (take i text))) (map value_of (drop i text)) (omega arith))

pub too_large : (high low : ℕ) → 2 ^ 104 ≤ high → 2 ^ 200 ≤ joined high low
too_large high low least = omega arith

-- the bound of bytes
pub bytes_bound : (n m i : ℕ) → n < 2 ^ (8 * i) → m ≤ n * 256 + 255 → m < 2 ^ (8 * (i + 1))
bytes_bound n m i low most =
    let next : 2 ^ (8 * (i + 1)) ≡ 2 ^ (8 * i) * 2 ^ 8 = ap (λ (k : ℕ). 2 ^ k) (omega arith) ∙ pow-add 2 (8 * i) 8 in
    omega (arith, next)

pub high_bound : (high low i : ℕ) → joined high low < 2 ^ (8 * i) → i ≤ 25 → high < 2 ^ 104
high_bound high low i under most =
    let bound : 2 ^ (8 * i) ≤ 2 ^ 200 = pow_mono {i = 8 * i} {j = 200} (omega arith) in
    omega (arith, bound)

pub whole_bound : (high low : ℕ) → high < 2 ^ 104 → low < 2 ^ 96 → joined high low < 2 ^ 200
whole_bound high low h l = omega arith

-- ---- writing

-- the room after a digit was put before those that are there
pub digit_put : (room : List ℕ) (i d : ℕ) → i < length room → drop (length (set room (length room - 1 - i) d) - (i + 1)) (set room (length room - 1 - i) d) ≡ d ∷ drop (length room - i) room
digit_put room i d low =
    let place = length room - 1 - i in
    let long : length (set room place d) ≡ length room = length-set room place d in
    let at : length (set room place d) - (i + 1) ≡ place = omega (arith, long) in
    let after : place + 1 ≡ length room - i = omega arith in
    ap (λ (k : ℕ). drop k (set room place d)) at
    ∙ drop-set room place d (omega arith)
    ∙ ap (λ (k : ℕ). d ∷ drop k room) after

-- a digit taken from the end of a number and put before the row
pub digit_moves : (base n : ℕ) (row : List ℕ) → number_from_digits_after base (n / base) (n % base ∷ row) ≡ number_from_digits_after base n row
digit_moves base n row = ap (λ (k : ℕ). number_from_digits_after base k row) (div-add-mod' n base)

-- what is written after a number is at least so large
after_least : (base n : ℕ) (row : List ℕ) → n * base ^ length row ≤ number_from_digits_after base n row
after_least base n [] = omega (arith, ap (λ (k : ℕ). n * k) (pow-zero base))
after_least base n (d ∷ row) =
    let rest = after_least base (n * base + d) row in
    let size = base ^ length row in
    let apart : (n * base + d) * size ≡ n * base * size + d * size = add-mul (n * base) d size in
    let step : n * base ^ suc (length row) ≡ n * base * size =
    ap (λ (k : ℕ). n * k) (pow-suc base (length row) ∙ mul_comm size base) ∙ sym (mul_assoc n base size) in
    omega (arith, rest, apart, step)

-- so nothing is left where the number is below that
pub nothing_left : (base n whole : ℕ) (row : List ℕ) → number_from_digits_after base n row ≡ whole → whole < base ^ length row → n ≡ 0
nothing_left base zero whole row is low = refl
nothing_left base (suc n) whole row is low =
    let least = after_least base (suc n) row in
    let more : 1 * base ^ length row ≤ suc n * base ^ length row = mul-le-mul_right (base ^ length row) (omega arith) in
    absurd (omega (arith, least, more, is))
