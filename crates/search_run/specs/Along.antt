-- To which search a run comes, as the code follows it.
use Rattle.std.specs.Prelude.{◌≡◌, ◌≤◌, ◌<◌, ◌||◌, ◌&&◌, Bool, List, [], ◌∷◌, length, drop, if◌then◌else◌}
use Rattle.search_run.specs.Kept.{At}
use Rattle.search_run.specs.Run.{is_some_found}
use Rattle.search_run.specs.Step.{PlainStep}
use Rattle.search_run.specs.declared.next_search.NextSearch.{NextSearch}

-- the place is that of the search, and it is known whether its column has a result
pub record ComesTo (steps : List PlainStep) (c : NextSearch) (at : At) : Type 0 where
  pub within : c.at ≤ length steps
  pub left : at.left ≡ drop c.at steps
  pub some : is_some_found at.found ≡ c.some

-- after a step: where it is the last of its column and that has a result, nothing is left
pub record IsAfterStep (steps : List PlainStep) (from : NextSearch) (some : Bool) (c : NextSearch) : Type 0 where
  pub within : c.at ≤ length steps
  pub result : c.some ≡ (from.some || some)
  pub left : (x : PlainStep) (rest : List PlainStep) → drop from.at steps ≡ x ∷ rest → drop c.at steps ≡ (if x.last && c.some then [] else rest)
  pub fewer : length (drop c.at steps) < length (drop from.at steps)
