-- What one row does to the search of rows.
use Rattle.std.specs.Prelude.{ℕ, ◌≡◌, ◌∷◌, ◌++◌, true, false, List, [], Bool, Option, Some, option_map}
use Rattle.search_run.specs.Step.{PlainStep}
use Rattle.wide_search.specs.WideWalk.{Walk, walk}
use Rattle.wide_plan.specs.Rows.{PlainWideSection, section_at}
use Rattle.wide_plan.specs.declared.rows.RowsEnd.{RowsEnd}
use Rattle.wide_plan.specs.declared.rows.RowsEnd.TheVariants.{Found, Open}

-- the end that a row with this best makes, if it makes one
abbrev pub end_of : (number : ℕ) → (done : Bool) → Option (List ℕ) → Option RowsEnd
end_of number false best = Some (Open number best)
end_of number true best = option_map (Found number) best

-- the sections behind it
abbrev pub closed_by : PlainStep → Walk → (done : Bool) → List PlainWideSection → List PlainWideSection
closed_by x w false closed = closed
closed_by x w true closed = closed ++ section_at x w ∷ []

-- the row was searched with at most n tries
pub record IsTurn (x : PlainStep) (n : ℕ) (closed : List PlainWideSection) (made : ℕ) (end : Option RowsEnd) (closed' : List PlainWideSection) : Type 0 where
  pub made_is : made ≡ (walk x.problem n).tries
  pub end_is : end ≡ end_of x.row (walk x.problem n).done (walk x.problem n).best
  pub closed_is : closed' ≡ closed_by x (walk x.problem n) (walk x.problem n).done closed
