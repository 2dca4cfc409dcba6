-- The first pair of a PSBT's global map. Memory is asked for behind it alone: a fault that shows before is never told as
-- out of memory.
use Rattle.std.specs.Prelude.{ℕ, ◌≡◌, ◌⊎◌, List, [], ◌++◌, length, IsOkAnd, IsSome}
use Rattle.fund_base.specs.Cursor.{At}
use Rattle.psbt_codec.specs.declared.pairs.Part.{Part}
use Rattle.psbt_codec.specs.declared.pairs.Part.TheVariants.{Input, InputFields}
use Rattle.psbt_codec.specs.Psbt.{Pair, magic, typed, pair_text, IsPair, global_types}
use Rattle.psbt_codec.specs.Reading.{pair_at}

-- A pair that can stand in a global map. Its key is not empty, and has no key data where it is that of the unsigned
-- transaction or of the version. A version takes four bytes.
pub record IsGlobalPair (p : Pair) : Type 0 where
  pub pair_is : IsPair global_types p
  pub version : p ≡ typed 251 p.value → length p.value ≡ 4

-- the bytes begin with the magic and a pair that can stand in a global map
pub record BeginsByPair (bytes : List ℕ) : Type 0 where
  pub pair : Pair
  pub rest : List ℕ
  pub parts : bytes ≡ magic ++ (pair_text pair ++ rest)
  pub pair_is : IsGlobalPair pair

-- the maps whose values may hold a whole transaction or an output
abbrev pub IsInput : Part → Type 0
IsInput part = (part ≡ Input) ⊎ (part ≡ InputFields)

-- a map begins here, and its first pair is read
abbrev pub HasFirstPair : Part → At → Type 0
HasFirstPair part at = IsOkAnd (pair_at part [] at) (λ read. IsSome read.0)
