-- Reading from left to right: what is left, and at which place of the whole it begins.
use Rattle.std.specs.Prelude.{ℕ, ◌≡◌, ◌+◌, ◌<◌, ◌==◌, List, length, take, drop, slice_index, nat_lt, All, Result, Ok, Err, if◌then◌else◌}
use Rattle.std.specs.Int.{Width, w16, w32, w64, byte_len, from_le_bytes}
use Rattle.fund_base.specs.declared.cursor.CutFault.{CutFault}
use Rattle.fund_base.specs.declared.cursor.CutFault.TheVariants.{Truncated, LongCompact}

-- the bytes that are left, and the place of the first of them
pub record At : Type 0 where
  pub rest : List ℕ
  pub place : ℕ

-- each of them is a byte
abbrev pub IsBytes : List ℕ → Type 0
IsBytes bytes = All (λ b. b < 256) bytes

-- n bytes further
abbrev pub after : ℕ → At → At
after n at = record { rest = drop n at.rest; place = at.place + n }

-- n bytes
abbrev pub take_at : ℕ → At → Result (List ℕ × At) CutFault
take_at n at = if nat_lt (length at.rest) n then Err (Truncated at.place) else Ok (take n at.rest, after n at)

-- a number of the width, low byte first
abbrev pub number_at : Width → At → Result (ℕ × At) CutFault
number_at w at =
    if nat_lt (length at.rest) (byte_len w) then Err (Truncated at.place)
    else Ok (from_le_bytes w (take (byte_len w) at.rest), after (byte_len w) at)

-- a CompactSize of a byte that tells the width and a number of the width, which must be at least so
-- large: a smaller one has a shorter spelling
abbrev pub wide_at : Width → ℕ → At → Result (ℕ × At) CutFault
wide_at w least at =
    if nat_lt (length at.rest) (1 + byte_len w) then Err (Truncated at.place)
    else if nat_lt (from_le_bytes w (take (byte_len w) (drop 1 at.rest))) least then Err (LongCompact at.place)
    else Ok (from_le_bytes w (take (byte_len w) (drop 1 at.rest)), after (1 + byte_len w) at)

-- a CompactSize, whose faults lie at its first byte (BIP 144 and the protocol's documentation, 'CompactSize')
unfoldable pub compact_at : At → Result (ℕ × At) CutFault
compact_at at =
    if nat_lt (length at.rest) 1 then Err (Truncated at.place)
    else if slice_index at.rest 0 == 253 then wide_at w16 253 at
    else if slice_index at.rest 0 == 254 then wide_at w32 65536 at
    else if slice_index at.rest 0 == 255 then wide_at w64 4294967296 at
    else Ok (slice_index at.rest 0, after 1 at)

-- What a call returned, seen by view, and where it left the cursor, is what reading gives; a cursor
-- that was refused something stays where it was.
abbrev pub Moves : {X Y : Type 0} → (X → Y) → At → At → Result X CutFault → Result (Y × At) CutFault → Type 0
Moves view old new (Ok x) read = read ≡ Ok (view x, new)
Moves view old new (Err e) read = (read ≡ Err e) × (new ≡ old)
