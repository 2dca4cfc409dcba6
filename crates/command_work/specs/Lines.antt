-- The lines of a text.
use Rattle.std.specs.Prelude.{ℕ, ◌==◌, Bool, List, [], ◌∷◌, ◌||◌, codes, if◌then◌else◌}
use Rattle.std.specs.List.{flat_map, starts_with}

-- a byte before lines: it begins the first of them
abbrev pub begun_by : ℕ → List (List ℕ) → List (List ℕ)
begun_by b [] = (b ∷ []) ∷ []
begun_by b (l ∷ ls) = (b ∷ l) ∷ ls

-- the lines of a text, each with the line feed that ends it; the last one may have none
unfoldable pub lines_of : List ℕ → List (List ℕ)
lines_of [] = []
lines_of (b ∷ bs) = if b == 10 then (b ∷ []) ∷ lines_of bs else begun_by b (lines_of bs)

-- the line of a coin, or of a PSBT
abbrev pub is_long_line : List ℕ → Bool
is_long_line line = starts_with ◌==◌ line (codes "in ") || starts_with ◌==◌ line (codes "psbt ")

abbrev pub short_line : List ℕ → List ℕ
short_line line = if is_long_line line then [] else line

-- a text without its lines of coins and of a PSBT
unfoldable pub short_lines : List ℕ → List ℕ
short_lines text = flat_map short_line (lines_of text)
