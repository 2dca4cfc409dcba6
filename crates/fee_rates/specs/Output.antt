-- The size of an output, witness programs, and the least amounts that are worth their spending.
use Rattle.std.specs.Prelude.{ℕ, ◌≡◌, ◌+◌, ◌≤◌, ◌==◌, nat_le, nat_lt, ◌&&◌, ◌||◌, Bool, List, length, slice_index, if◌then◌else◌, ◌⊎◌}
use Rattle.fund_base.specs.CompactSize.{prefixed}
use Rattle.fee_rates.specs.Fee.{fee_of}

-- the bytes of an output that pays to a script: eight of its value, then the script with its length
abbrev pub output_size_of : List ℕ → ℕ
output_size_of script = 8 + length (prefixed script)

-- a witness program: 4 to 42 bytes, a version from 0 to 16, and one push of all the rest (BIP 141, 'Witness program')
pub record IsProgram (script : List ℕ) : Type 0 where
  pub sized : (4 ≤ length script) × (length script ≤ 42)
  pub version : (slice_index script 0 ≡ 0) ⊎ ((81 ≤ slice_index script 0) × (slice_index script 0 ≤ 96))
  pub push : slice_index script 1 + 2 ≡ length script

-- the same as a test
abbrev pub is_program_of : List ℕ → Bool
is_program_of script =
    (nat_le 4 (length script) && nat_le (length script) 42)
    && ((slice_index script 0 == 0) || (nat_le 81 (slice_index script 0) && nat_le (slice_index script 0) 96))
    && (slice_index script 1 + 2 == length script)

-- a script that nothing can spend: it begins with OP_RETURN, or is longer than 10,000 bytes (Bitcoin Core,
-- `IsUnspendable`)
abbrev pub is_unspendable_of : List ℕ → Bool
is_unspendable_of script =
    (nat_lt 0 (length script) && (slice_index script 0 == 106)) || nat_lt 10000 (length script)

-- the least amount that an output to the script may have: the fee at 3,000 of the output and of the
-- input that would spend it, 67 virtual bytes for a witness program and else 148 (Bitcoin Core, `GetDustThreshold`)
unfoldable pub dust_of : List ℕ → ℕ
dust_of script =
    if is_unspendable_of script then 0
    else if is_program_of script then fee_of 3000 (output_size_of script + 67)
    else fee_of 3000 (output_size_of script + 148)
