-- Maps to which pairs were added, and pairs that stand in the way.
use Rattle.std.specs.Prelude.{ℕ, ◌≡◌, ◌≢◌, ◌<◌, ◌⊎◌, ◌↔◌, List, [], ◌∷◌, ◌++◌, length, slice_index_or, All, AllPairs, Contains}
use Rattle.std.specs.Cmp.Lexicographic.{slice_cmp}
use Rattle.std.specs.Ordering.{nat_cmp}
use Rattle.std.specs.declared.cmp.Ordering.TheVariants.{Less}
use Rattle.psbt_codec.specs.Fault.{shown}
use Rattle.psbt_codec.specs.Psbt.{HaveOtherKeys, Pair}
use Rattle.psbt_keys.specs.Pairs.{type_of}

-- ---- a map

-- some elements of the second list, in its order, are the first list
abbrev pub IsSubsequence : {X : Type 0} → List X → List X → Type 0
IsSubsequence {X} part [] = part ≡ []
IsSubsequence {X} part (x ∷ xs) = IsSubsequence part xs ⊎ ((rest : List X) × (part ≡ x ∷ rest) × IsSubsequence rest xs)

-- the keys rise, compared byte by byte
abbrev pub AreRising : List Pair → Type 0
AreRising pairs = AllPairs (λ (p q : Pair). slice_cmp nat_cmp p.key q.key ≡ Less) pairs

-- A map to which pairs were added. Its old pairs stand in their order, the others are those that are due, and no key stands
-- twice. Keys that rose still rise.
pub record IsExtended (due old new : List Pair) : Type 0 where
  pub kept : IsSubsequence old new
  pub each : (q : Pair) → Contains new q ↔ (Contains old q ⊎ Contains due q)
  pub alone : AllPairs HaveOtherKeys new
  pub rising : AreRising old → AreRising new

-- a pair of the map has the key of this one and another value
abbrev pub HasOtherValue : List Pair → Pair → Type 0
HasOtherValue old q = (p : Pair) × Contains old p × (p.key ≡ q.key) × (p.value ≢ q.value)

-- no pair of the map has the key of a due pair and another value
abbrev pub Agrees : (due old : List Pair) → Type 0
Agrees due old = All (λ q. HasOtherValue old q → ⊥) due

-- The due pair at this place, of this type, is the first of which the map has the key with another value.
pub record IsConflict (due old : List Pair) (place kind : ℕ) : Type 0 where
  pub before : List Pair
  pub pair : Pair
  pub behind : List Pair
  pub parts : due ≡ before ++ pair ∷ behind
  pub place_is : place ≡ length before
  pub kind_is : kind ≡ type_of pair
  pub agree : Agrees before old
  pub differs : HasOtherValue old pair

-- ---- several maps

-- what stands at a place of a list of maps
abbrev pub nth_map : List (List Pair) → ℕ → List Pair
nth_map maps i = slice_index_or maps i []

-- as many maps, of which each is extended by what is due at its place
pub record AreExtended (dues olds news : List (List Pair)) : Type 0 where
  pub many : length news ≡ length olds
  pub each : (i : ℕ) → i < length olds → IsExtended (nth_map dues i) (nth_map olds i) (nth_map news i)

abbrev pub AllAgree : (dues olds : List (List Pair)) → Type 0
AllAgree dues olds = (i : ℕ) → i < length olds → Agrees (nth_map dues i) (nth_map olds i)

-- The first map that has the key of a due pair with another value is the one that is shown so, and the pair is of this type.
pub record IsFirstConflict (dues olds : List (List Pair)) (number kind : ℕ) : Type 0 where
  pub index : ℕ
  pub some : index < length olds
  pub number_is : number ≡ shown index
  pub agree : (i : ℕ) → i < index → Agrees (nth_map dues i) (nth_map olds i)
  pub place : ℕ
  pub conflict : IsConflict (nth_map dues index) (nth_map olds index) place kind
