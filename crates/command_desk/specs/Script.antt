-- The lines of a script, and the words of a line.
use Rattle.std.specs.Prelude.{ℕ, ◌≡◌, ◌≢◌, ◌==◌, ◌++◌, List, [], ◌∷◌, All, Option, Some, None, if◌then◌else◌}
use Rattle.command_end.specs.LinesText.{lines_text}

-- a byte at the front of the first of these parts
abbrev pub before_part : ℕ → List (List ℕ) → List (List ℕ)
before_part b [] = (b ∷ []) ∷ []
before_part b (part ∷ parts) = (b ∷ part) ∷ parts

-- The lines of a text: each ends at a line feed, and what stands behind the last one, if anything does, is a line too.
unfoldable pub lines_of : List ℕ → List (List ℕ)
lines_of [] = []
lines_of (b ∷ rest) = if b == 10 then [] ∷ lines_of rest else before_part b (lines_of rest)

-- The words of a line: it is cut at each blank.
unfoldable pub words_of : List ℕ → List (List ℕ)
words_of [] = [] ∷ []
words_of (b ∷ rest) = if b == 32 then [] ∷ words_of rest else before_part b (words_of rest)

-- those behind a blank, if there is one
abbrev pub words_behind : Option (List ℕ) → List (List ℕ)
words_behind None = []
words_behind (Some rest) = words_of rest

-- what stands behind the last line feed, as a line, if anything does
abbrev pub last_line : List ℕ → List (List ℕ)
last_line [] = []
last_line (b ∷ rest) = (b ∷ rest) ∷ []

-- The text has these lines: each ends with a line feed, but that the last may be without one, and then isn't empty.
pub record AreLines (text : List ℕ) (lines : List (List ℕ)) : Type 0 where
  pub ended : List (List ℕ)
  pub rest : List ℕ
  pub text_is : text ≡ lines_text ended ++ rest
  pub lines_are : lines ≡ ended ++ last_line rest
  pub plain : All (λ (line : List ℕ). All (λ b. b ≢ 10) line) lines

-- a line of one word, of two, of three: they stand with one blank between them
abbrev pub two_words : (a b : List ℕ) → List ℕ
two_words a b = a ++ (32 ∷ b)

abbrev pub three_words : (a b c : List ℕ) → List ℕ
three_words a b c = a ++ (32 ∷ (b ++ (32 ∷ c)))
