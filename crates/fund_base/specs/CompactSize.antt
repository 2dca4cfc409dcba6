-- Numbers and byte strings as Bitcoin's transactions and PSBTs spell them.
use Rattle.std.specs.Prelude.{ℕ, ◌≡◌, ◌≢◌, ◌<◌, ◌^◌, ◌⊎◌, List, [], ◌∷◌, ◌++◌, length, nat_lt, if◌then◌else◌}
use Rattle.std.specs.Int.{Width, w16, w32, w64, to_le_bytes}
use Rattle.std.specs.List.{flat_map}

-- CompactSize in its shortest spelling: 0 to 252 in one byte, else FD and two bytes, FE and four,
-- FF and eight, low byte first (BIP 144 and the protocol's documentation, 'CompactSize')
unfoldable pub compact : ℕ → List ℕ
compact n =
    if nat_lt n 253 then n ∷ []
    else if nat_lt n 65536 then 253 ∷ to_le_bytes w16 n
    else if nat_lt n 4294967296 then 254 ∷ to_le_bytes w32 n
    else 255 ∷ to_le_bytes w64 n

-- the length of a string in CompactSize, and its bytes
abbrev pub prefixed : List ℕ → List ℕ
prefixed bytes = compact (length bytes) ++ bytes

-- the number of items in CompactSize, and the text of each
abbrev pub counted : {X : Type 0} → (X → List ℕ) → List X → List ℕ
counted item xs = compact (length xs) ++ flat_map item xs

-- a number below this limit behind this first byte, low byte first
abbrev pub IsInWidth : Width → (limit first : ℕ) → ℕ → List ℕ → Type 0
IsInWidth w limit first n text = (n < limit) × (text ≡ first ∷ to_le_bytes w n)

-- A spelling of a number in CompactSize, be it the shortest or a longer one.
abbrev pub IsSpelling : ℕ → List ℕ → Type 0
IsSpelling n text =
    ((n < 253) × (text ≡ n ∷ []))
    ⊎ (IsInWidth w16 (2 ^ 16) 253 n text ⊎ (IsInWidth w32 (2 ^ 32) 254 n text ⊎ IsInWidth w64 (2 ^ 64) 255 n text))

-- the bytes end within a spelling, which some more would complete
pub record IsCut (bytes : List ℕ) : Type 0 where
  pub number : ℕ
  pub more : List ℕ
  pub spelled : IsSpelling number (bytes ++ more)
  pub some : more ≢ []

-- the bytes begin with a spelling of a number that has a shorter one
pub record IsLong (bytes : List ℕ) : Type 0 where
  pub number : ℕ
  pub text : List ℕ
  pub rest : List ℕ
  pub parts : bytes ≡ text ++ rest
  pub spelled : IsSpelling number text
  pub longer : length (compact number) < length text
