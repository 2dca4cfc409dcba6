-- A list of transactions as a graph: at each place, the places of its parents.
use Rattle.std.specs.Prelude.{ℕ, zero, suc, ◌<◌, ◌==◌, ◌||◌, Bool, List, [], ◌∷◌, ◌++◌, length, filter, slice_index_or, All, Contains}
use Rattle.std.specs.List.{list_any}

-- the parents at a place
abbrev pub steps : List (List ℕ) → ℕ → List ℕ
steps g i = slice_index_or g i []

-- a parent stands before its child
abbrev pub IsInOrder : List (List ℕ) → Type 0
IsInOrder g = (i : ℕ) → i < length g → All (λ p. p < i) (steps g i)

-- j is i, or is reached from i by going from child to parent, once or more often
pub data Reaches (g : List (List ℕ)) : ℕ → ℕ → Type 0 where
  itself : {i : ℕ} → Reaches g i i
  through : {i p j : ℕ} → Contains (steps g i) p → Reaches g p j → Reaches g i j

-- j is i, or is reached from i in at most n steps
unfoldable pub within : List (List ℕ) → ℕ → ℕ → ℕ → Bool
within g zero i j = i == j
within g (suc n) i j = (i == j) || list_any (λ p. within g n p j) (steps g i)

-- the numbers below n
unfoldable pub below : ℕ → List ℕ
below zero = []
below (suc n) = below n ++ n ∷ []

-- the places that are i or are reached from it, rising
abbrev pub kin : List (List ℕ) → ℕ → List ℕ
kin g i = filter (within g (length g) i) (below (length g))
