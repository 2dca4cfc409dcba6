-- A pair put into a map.
use Rattle.std.specs.Prelude.{ℕ, Bool, true, false, ◌≡◌, ◌≢◌, ◌≤◌, ◌<◌, ◌⊎◌, ◌++◌, List, length, All, Contains, slice_index_or, bytes_eq, Option, option_map}
use Rattle.std.specs.List.{find, flat_map, insert}
use Rattle.std.specs.Cmp.Lexicographic.{slice_cmp}
use Rattle.std.specs.Ordering.{is_lt, nat_cmp}
use Rattle.psbt_codec.specs.Psbt.{Pair, map_text}
use Rattle.psbt_keys.specs.Extended.{AreExtended, IsExtended}
use Rattle.psbt_keys.specs.Pairs.{HasLengths}

-- the value that stands under a key
abbrev pub value_under : List ℕ → List Pair → Option (List ℕ)
value_under key pairs = option_map (λ (p : Pair). p.value) (find (λ (p : Pair). bytes_eq p.key key) pairs)

-- a key comes before another, compared byte by byte
abbrev pub comes_before : List ℕ → List ℕ → Bool
comes_before key other = is_lt (slice_cmp nat_cmp key other)

-- A place before the first pair whose key comes behind this one.
pub record IsPlace (key : List ℕ) (pairs : List Pair) (place : ℕ) : Type 0 where
  pub within : place ≤ length pairs
  pub before : (i : ℕ) (d : Pair) → i < place → comes_before key (slice_index_or pairs i d).key ≡ false
  pub behind : (d : Pair) → place < length pairs → comes_before key (slice_index_or pairs place d).key ≡ true

-- the pair was put where no pair had its key
pub record IsPut (q : Pair) (old new : List Pair) : Type 0 where
  pub absent : All (λ (p : Pair). p.key ≢ q.key) old
  pub place : ℕ
  pub place_is : IsPlace q.key old place
  pub new_is : new ≡ insert old place q

-- the pair stands in the map, where it was already or where it was put
abbrev pub IsPlaced : Pair → (old new : List Pair) → Type 0
IsPlaced q old new = (Contains old q × (new ≡ old)) ⊎ IsPut q old new

-- the text of the map with what is due in it was written behind what stood there
pub record IsWritten (due old : List Pair) (front text : List ℕ) : Type 0 where
  pub pairs : List Pair
  pub extended : IsExtended due old pairs
  pub text_is : text ≡ front ++ map_text pairs
  pub lengths : All HasLengths pairs

-- the same of several maps, one behind the other
pub record AreWritten (dues olds : List (List Pair)) (front text : List ℕ) : Type 0 where
  pub maps : List (List Pair)
  pub extended : AreExtended dues olds maps
  pub text_is : text ≡ front ++ flat_map map_text maps
  pub lengths : All (All HasLengths) maps
