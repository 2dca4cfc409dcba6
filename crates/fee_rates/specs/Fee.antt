-- Fees and virtual sizes, rates in satoshi per 1,000 virtual bytes.
use Rattle.std.specs.Prelude.{ℕ, ℤ, pos, ◌*◌, ◌-ℤ◌}
use Rattle.std.specs.Int.{div_ceil}

-- the fee of v virtual bytes at a rate: rate times v over 1,000, rounded up (Bitcoin Core, `CFeeRate`)
unfoldable pub fee_of : ℕ → ℕ → ℕ
fee_of rate v = div_ceil (rate * v) 1000

-- the virtual size of a weight: a quarter of it, rounded up (BIP 141, 'Transaction size calculations')
unfoldable pub vsize_of : ℕ → ℕ
vsize_of weight = div_ceil weight 4

-- the fee of a weight by itself, as of one input
abbrev pub input_fee_of : ℕ → ℕ → ℕ
input_fee_of rate weight = fee_of rate (vsize_of weight)

-- what a coin is worth when it is spent at a rate: its value less its input's fee
abbrev pub effective_of : ℕ → ℕ → ℕ → ℤ
effective_of value rate weight = pos value -ℤ pos (input_fee_of rate weight)
