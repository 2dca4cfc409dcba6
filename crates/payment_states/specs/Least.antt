-- The least of values that may be there.
use Rattle.std.specs.Prelude.{ℕ, List, [], ◌∷◌, min, slice_index_or, Option, Some, None}

-- the lesser of the values that are there
abbrev pub lesser : Option ℕ → Option ℕ → Option ℕ
lesser None s = s
lesser (Some m) None = Some m
lesser (Some m) (Some n) = Some (min m n)

-- the least of the values of these elements
abbrev pub least_by : {X : Type 0} → (X → Option ℕ) → List X → Option ℕ
least_by value [] = None
least_by value (x ∷ xs) = lesser (value x) (least_by value xs)

-- the value at a place
abbrev pub value_at : List (Option ℕ) → ℕ → Option ℕ
value_at own j = slice_index_or own j None
