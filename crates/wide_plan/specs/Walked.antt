-- Where the walk of a row stands, as far as the search of rows sees it.
use Rattle.std.specs.Prelude.{ℕ, List, Option, Some, None, if◌then◌else◌}
use Rattle.wide_check.specs.WideLetters.{letters_of}
use Rattle.wide_search.specs.WideWalk.{Walk}

-- the tries made, the best met so far, and the letters of the closing tree where the walk is done
pub record PlainWalked : Type 0 where
  pub made : ℕ
  pub best : Option (List ℕ)
  pub tree : Option (List ℕ)

abbrev pub walked_of : Walk → PlainWalked
walked_of w = record { made = w.tries; best = w.best; tree = if w.done then Some (letters_of w.tokens) else None }
