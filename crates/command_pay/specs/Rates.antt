-- What a fee comes to a virtual byte.
use Rattle.std.specs.Prelude.{ℕ, ◌*◌, ◌/◌, ◌^◌, ◌==◌, ◌||◌, nat_le, Option, Some, None, if◌then◌else◌}

-- What a fee comes to for 1,000 virtual bytes, rounded down; none where there is no virtual byte, or the fee's thousandfold
-- has more than 64 bits.
abbrev pub rate_of : ℕ → ℕ → Option ℕ
rate_of fee vsize = if vsize == 0 || nat_le (2 ^ 64) (fee * 1_000) then None else Some (fee * 1_000 / vsize)
