-- Which rule of addresses a text breaks first, in the words of the text (BIP 173 and BIP 350).
use Rattle.std.specs.Prelude.{ℕ, ◌≡◌, ◌≢◌, ◌<◌, ◌≤◌, ◌⊎◌, List, [], ◌∷◌, ◌++◌, map, length, All, Any, Contains, codes}
use Rattle.std.specs.Char.{to_ascii_lowercase}
use Rattle.std.specs.Int.{IsInRange, IsOutOfRange}
use Rattle.fund_base.specs.Cursor.{IsBytes}
use Rattle.segwit_addr.specs.Bech32.{polymod, expanded, bech32_sum, bech32m_sum, alphabet, letter_of}
use Rattle.segwit_addr.specs.Regrouping.{values_of}
use Rattle.segwit_addr.specs.Reading.{char_count}
use Rattle.segwit_addr.specs.declared.fault.AddrFault.{AddrFault}
use Rattle.segwit_addr.specs.declared.fault.AddrFault.TheVariants.{Case, Separator, Letter, Checksum, Network, Version, Length, Padding, Memory}

-- ---- the text

-- it has 8 to 90 bytes
pub record IsSized (text : List ℕ) : Type 0 where
  pub least : 8 ≤ length text
  pub most : length text ≤ 90

-- an upper case letter of ASCII stands in it, and a lower case one
pub record HasBothCases (text : List ℕ) : Type 0 where
  pub upper : Any (IsInRange 65 90) text
  pub lower : Any (IsInRange 97 122) text

-- its length is right, and so is its case
pub record IsPlain (text : List ℕ) : Type 0 where
  pub sized : IsSized text
  pub one_case : HasBothCases text → ⊥

-- its length is right, but not its case
pub record IsMixed (text : List ℕ) : Type 0 where
  pub sized : IsSized text
  pub both : HasBothCases text

-- ---- its separator

-- the last `1` of a text stands between these
pub record IsSplit (text prefix letters : List ℕ) : Type 0 where
  pub parts : text ≡ prefix ++ 49 ∷ letters
  pub last : All (λ c. c ≢ 49) letters

-- It is plain, and in lower case these two stand before the last `1` and after it: the first isn't empty, and the
-- second has seven characters or more.
pub record IsParted (text prefix letters : List ℕ) : Type 0 where
  pub plain : IsPlain text
  pub split : IsSplit (map to_ascii_lowercase text) prefix letters
  pub some : prefix ≢ []
  pub enough : 7 ≤ char_count letters

-- nothing stands before the last `1` of a text, or fewer than seven characters after it
pub record IsShort (text : List ℕ) : Type 0 where
  pub prefix : List ℕ
  pub letters : List ℕ
  pub split : IsSplit text prefix letters
  pub short : (prefix ≡ []) ⊎ (char_count letters < 7)

-- there is no `1`, or it stands so
pub record IsUnseparated (text : List ℕ) : Type 0 where
  pub plain : IsPlain text
  pub lacks : All (λ c. c ≢ 49) (map to_ascii_lowercase text) ⊎ IsShort (map to_ascii_lowercase text)

-- ---- its characters

-- a character that isn't in 33 to 126 stands in the first, or one that isn't of the alphabet in the second
abbrev pub HasStranger : List ℕ → List ℕ → Type 0
HasStranger prefix letters = Any (IsOutOfRange 33 126) prefix ⊎ Any (λ c. Contains alphabet c → ⊥) letters

-- it has such parts, and such a character
pub record IsMisspelled (text : List ℕ) : Type 0 where
  pub prefix : List ℕ
  pub letters : List ℕ
  pub parted : IsParted text prefix letters
  pub stranger : HasStranger prefix letters

-- It is plain, and in lower case it is a human-readable part, a `1`, and the letters of seven values or more.
pub record IsSpelled (text prefix values : List ℕ) : Type 0 where
  pub plain : IsPlain text
  pub spelling : map to_ascii_lowercase text ≡ prefix ++ 49 ∷ map letter_of values
  pub some : prefix ≢ []
  pub printable : All (IsInRange 33 126) prefix
  pub enough : 7 ≤ length values
  pub small : All (λ v. v < 32) values

-- ---- its checksum

-- the checksum of the whole is neither constant
pub record IsUnsealed (text : List ℕ) : Type 0 where
  pub prefix : List ℕ
  pub values : List ℕ
  pub spelled : IsSpelled text prefix values
  pub neither : (polymod (expanded prefix ++ values) ≢ bech32_sum) × (polymod (expanded prefix ++ values) ≢ bech32m_sum)

-- it is this one of the two
pub record IsSealed (text prefix values : List ℕ) (sum : ℕ) : Type 0 where
  pub spelled : IsSpelled text prefix values
  pub sum_is : polymod (expanded prefix ++ values) ≡ sum
  pub either : (sum ≡ bech32_sum) ⊎ (sum ≡ bech32m_sum)

-- ---- what it says

-- it is sealed, and of another network
pub record IsForeign (text : List ℕ) : Type 0 where
  pub prefix : List ℕ
  pub values : List ℕ
  pub sum : ℕ
  pub sealed : IsSealed text prefix values sum
  pub other : prefix ≢ codes "bc"

-- It is sealed, of Bitcoin's main network, and says a version and the values of a program, after which six values
-- stand.
pub record Says (text : List ℕ) (sum version : ℕ) (program : List ℕ) : Type 0 where
  pub last : List ℕ
  pub sealed : IsSealed text (codes "bc") (version ∷ (program ++ last)) sum
  pub six : length last ≡ 6

-- the version is above 16, or 0 under bech32m, or 1 to 16 under bech32
abbrev pub IsOtherVersion : ℕ → ℕ → Type 0
IsOtherVersion sum version = (16 < version) ⊎ (((version ≡ 0) × (sum ≡ bech32m_sum)) ⊎ (IsInRange 1 16 version × (sum ≡ bech32_sum)))

-- it says one of these
pub record IsMisversioned (text : List ℕ) : Type 0 where
  pub sum : ℕ
  pub version : ℕ
  pub program : List ℕ
  pub says : Says text sum version program
  pub other : IsOtherVersion sum version

-- the version stands under its own checksum: 0 under bech32, or 1 to 16 under bech32m
abbrev pub IsOwnVersion : ℕ → ℕ → Type 0
IsOwnVersion sum version = ((version ≡ 0) × (sum ≡ bech32_sum)) ⊎ (IsInRange 1 16 version × (sum ≡ bech32m_sum))

-- it says such a version, and the values of a program
pub record IsVersioned (text : List ℕ) (version : ℕ) (program : List ℕ) : Type 0 where
  pub sum : ℕ
  pub says : Says text sum version program
  pub own : IsOwnVersion sum version

-- its program's values are those of no bytes
pub record IsMispadded (text : List ℕ) : Type 0 where
  pub version : ℕ
  pub program : List ℕ
  pub versioned : IsVersioned text version program
  pub none : (bytes : List ℕ) → IsBytes bytes → program ≢ values_of bytes

-- so many bytes are no program of this version: they aren't 2 to 40, or at version 0 neither 20 nor 32
abbrev pub IsOtherSize : ℕ → ℕ → Type 0
IsOtherSize version size = IsOutOfRange 2 40 size ⊎ ((version ≡ 0) × ((size ≢ 20) × (size ≢ 32)))

-- they are those of such bytes
pub record IsMissized (text : List ℕ) : Type 0 where
  pub version : ℕ
  pub bytes : List ℕ
  pub fit : IsBytes bytes
  pub versioned : IsVersioned text version (values_of bytes)
  pub other : IsOtherSize version (length bytes)

-- ---- the faults

-- The rule that a fault names is the first that the text breaks.
abbrev pub Breaks : List ℕ → AddrFault → Type 0
Breaks text Case = IsMixed text
Breaks text Separator = IsUnseparated text
Breaks text Letter = IsMisspelled text
Breaks text Checksum = IsUnsealed text
Breaks text Network = IsForeign text
Breaks text Version = IsMisversioned text
Breaks text Padding = IsMispadded text
Breaks text Length = (IsSized text → ⊥) ⊎ IsMissized text
Breaks text Memory = ⊥
