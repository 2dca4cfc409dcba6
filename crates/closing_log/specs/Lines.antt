-- Parts of the lines of a text, read from left to right: what stands after a word, what ends with a line feed, numbers
-- up to a line feed, and one of two things by their first byte.
use Rattle.std.specs.Prelude.{ℕ, ◌==◌, List, [], ◌∷◌, codes, Result, Ok, Err, if◌then◌else◌}
use Rattle.closing_log.specs.Reading.{made_at, number_at, word_at}
use Rattle.fund_base.specs.Parsing.{◌>>=◌}

-- what stands after a word
abbrev pub behind_at : {X : Type 0} → List ℕ → (List ℕ → Result (X × List ℕ) (List ℕ)) → List ℕ → Result (X × List ℕ) (List ℕ)
behind_at word item bytes = word_at word bytes >>= λ u. item u.1

-- what ends with a line feed
abbrev pub ended_at : {X : Type 0} → (List ℕ → Result (X × List ℕ) (List ℕ)) → List ℕ → Result (X × List ℕ) (List ℕ)
ended_at item bytes = item bytes >>= λ x. word_at (codes "\n") x.1 >>= λ u. Ok (x.0, u.1)

-- a number of at most `most`, and a line feed
abbrev pub number_line : ℕ → List ℕ → Result (ℕ × List ℕ) (List ℕ)
number_line most = made_at (λ (v : ℕ × ℕ). v.0) (number_at most (10 ∷ []))

-- the same of a number that isn't 0
unfoldable pub positive_line : ℕ → List ℕ → Result (ℕ × List ℕ) (List ℕ)
positive_line most [] = number_line most []
positive_line most (b ∷ rest) = if b == 48 then Err (b ∷ rest) else number_line most (b ∷ rest)

-- the first where the byte m stands, and otherwise the second
unfoldable pub either_at : {X : Type 0} → ℕ → (List ℕ → Result (X × List ℕ) (List ℕ)) → (List ℕ → Result (X × List ℕ) (List ℕ)) → List ℕ → Result (X × List ℕ) (List ℕ)
either_at m first others [] = Err []
either_at m first others (b ∷ rest) = if b == m then first (b ∷ rest) else others (b ∷ rest)
