-- The value of digits before and behind a point, in numbers of 64 bits.
use Rattle.std.proofs.Common.{ℕ, ◌+◌, ◌*◌, ◌^◌, ◌<◌, ◌≤◌, arith}
use Rattle.std.proofs.Math.Nat.{mul-le-mul_left, one-le-pow, pow-le-pow_right}

pub ten_pow : (p : ℕ) → p ≤ 8 → (1 ≤ 10 ^ p) × (10 ^ p ≤ 100000000)
ten_pow p le = (one-le-pow p 10 (omega arith), pow-le-pow_right {n = 10} (omega arith) le)

-- a product is no less than its first factor
pub product_ge : (w a : ℕ) → 1 ≤ a → w ≤ w * a
product_ge w a le = omega (arith, mul-le-mul_left w le)

-- so each part of a sum that fits is a number that fits
pub whole_small : (w a b : ℕ) → 1 ≤ a → w * a + b < 2 ^ 64 → w < 2 ^ 64
whole_small w a b some small = omega (arith, product_ge w a some, small)

pub part_small : (b f a : ℕ) → 1 ≤ a → b + f * a < 2 ^ 64 → f < 2 ^ 64
part_small b f a some small = omega (arith, product_ge f a some, small)
