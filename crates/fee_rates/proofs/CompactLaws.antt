-- The length of a number in CompactSize, and of an output's text.
use Rattle.std.specs.Prelude.{ℕ, ◌≡◌, List, ◌++◌, length, nat_lt, if◌then◌else◌}
use Rattle.std.specs.Int.{w64, to_le_bytes}
use Rattle.std.proofs.Common.{arith, length-append}
use Rattle.fund_base.specs.CompactSize.{compact, prefixed}
use Rattle.fee_rates.specs.Output.{output_size_of}

-- 1, 3, 5 or 9 bytes
pub compact_len_is : (n : ℕ) → length (compact n) ≡ (if nat_lt n 253 then 1 else if nat_lt n 65536 then 3 else if nat_lt n 4294967296 then 5 else 9)
unfolding compact
compact_len_is n = grind arith

pub output_text_length : (value : ℕ) (script : List ℕ) → length (to_le_bytes w64 value ++ prefixed script) ≡ output_size_of script
output_text_length value script = grind (arith, length-append)
