-- Numbers of two parts, times a base and over it.
use Rattle.std.proofs.Common.{◌≡◌, ℕ, ◌+◌, ◌*◌, ◌/◌, ◌%◌, ◌^◌, ◌<◌, ◌≤◌, sym, ◌∙◌, ap, arith}
use Rattle.std.proofs.Math.Nat.{mul_assoc, mul_comm, add-mul, mul-le-mul_left, mul-add-div_right, mul-add-mod_self_right, div-lt_iff_lt-mul, mod-lt}
use Rattle.std.proofs.lemmas.Nat.{div-add-mod'}
use Rattle.base58_addr.specs.Rebasing.{joined}

swap : (a b c : ℕ) → a * b * c ≡ a * c * b
swap a b c = mul_assoc a b c ∙ ap (λ (n : ℕ). a * n) (mul_comm b c) ∙ sym (mul_assoc a c b)

-- ---- times a base

pub product_most : (n base most : ℕ) → base ≤ 256 → n ≤ most → n * base ≤ most * 256
product_most n base most low le =
    let first : n * base ≤ n * 256 = mul-le-mul_left n low in
    omega arith

pub halves_times : (high low base digit : ℕ) → joined (high * base + (low * base + digit) / 2 ^ 96) ((low * base + digit) % 2 ^ 96) ≡ joined high low * base + digit
halves_times high low base digit =
    let parts : (low * base + digit) / 2 ^ 96 * 2 ^ 96 + (low * base + digit) % 2 ^ 96 ≡ low * base + digit = div-add-mod' (low * base + digit) (2 ^ 96) in
    let apart : (high * 2 ^ 96 + low) * base ≡ high * 2 ^ 96 * base + low * base = add-mul (high * 2 ^ 96) low base in
    let swapped : high * 2 ^ 96 * base ≡ high * base * 2 ^ 96 = swap high (2 ^ 96) base in
    let left : (high * base + (low * base + digit) / 2 ^ 96) * 2 ^ 96 ≡ high * base * 2 ^ 96 + (low * base + digit) / 2 ^ 96 * 2 ^ 96 = add-mul (high * base) ((low * base + digit) / 2 ^ 96) (2 ^ 96) in
    omega arith

-- ---- over a base

abbrev rest_of : ℕ → ℕ → ℕ → ℕ
rest_of high low base = high % base * 2 ^ 96 + low

parts_of : (high low base : ℕ) → joined high low ≡ high / base * 2 ^ 96 * base + rest_of high low base
parts_of high low base =
    let high_is : high / base * base + high % base ≡ high = div-add-mod' high base in
    let swapped : high / base * 2 ^ 96 * base ≡ high / base * base * 2 ^ 96 = swap (high / base) (2 ^ 96) base in
    let apart : (high / base * base + high % base) * 2 ^ 96 ≡ high / base * base * 2 ^ 96 + high % base * 2 ^ 96 = add-mul (high / base * base) (high % base) (2 ^ 96) in
    let whole : (high / base * base + high % base) * 2 ^ 96 ≡ high * 2 ^ 96 = ap (λ (n : ℕ). n * 2 ^ 96) high_is in
    omega (arith, swapped, apart, whole)

pub halves_over : (high low base : ℕ) → 0 < base → joined (high / base) (rest_of high low base / base) ≡ joined high low / base
halves_over high low base some =
    sym (ap (λ (n : ℕ). n / base) (parts_of high low base) ∙ mul-add-div_right some (high / base * 2 ^ 96) (rest_of high low base))

pub halves_last : (high low base : ℕ) → rest_of high low base % base ≡ joined high low % base
halves_last high low base = sym (ap (λ (n : ℕ). n % base) (parts_of high low base) ∙ mul-add-mod_self_right (high / base * 2 ^ 96) base (rest_of high low base))

pub rest_most : (high low base : ℕ) → 0 < base → low < 2 ^ 96 → rest_of high low base < 2 ^ 96 * base
rest_most high low base some fits =
    let under : high % base < base = mod-lt high some in
    omega arith

pub over_fits : (high low base : ℕ) → 0 < base → low < 2 ^ 96 → rest_of high low base / base < 2 ^ 96
over_fits high low base some fits = (div-lt_iff_lt-mul some).1 (rest_most high low base some fits)
