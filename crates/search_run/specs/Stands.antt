-- Where a run over steps may stand.
use Rattle.std.specs.Prelude.{ℕ, ◌≡◌, Bool, true, false, List, [], ◌∷◌, ◌++◌, IfSome}
use Rattle.std.specs.List.{AllByRecursion}
use Rattle.closing_log.specs.Log.{PlainSection}
use Rattle.pick_problem.specs.Walk.{IsPosition, Walk, walk}
use Rattle.search_run.specs.Found.{IsResultOf}
use Rattle.search_run.specs.Kept.{Along, At, IsAcceptedAt, IsBestAt, IsDueAt, IsFitAt, comes_to, first_search, to_search}
use Rattle.search_run.specs.Run.{Stand, drawn}
use Rattle.search_run.specs.Step.{PlainStep, is_drawn}
use Rattle.search_run.specs.declared.ending.End.{End}
use Rattle.search_run.specs.declared.ending.End.TheVariants.{Ended, Partial, Unfinished}

-- the walk of a draw is done with what is drawn; that of a search, behind letters from before, is one of these
abbrev pub IsWalkBy : Bool → (PlainStep → List ℕ → Walk → Type 0) → List ℕ → PlainStep → List ℕ → Walk → Type 0
IsWalkBy true Of seed x before w = w ≡ drawn x.problem seed
IsWalkBy false Of seed x before w = Of x before w

abbrev pub IsWalkAt : (PlainStep → List ℕ → Walk → Type 0) → List ℕ → List PlainStep → List ℕ → Walk → Type 0
IsWalkAt Of seed [] before w = Unit {0}
IsWalkAt Of seed (x ∷ rest) before w = IsWalkBy (is_drawn x.stage) Of seed x before w

-- The finished searches are those to which the run came, in order, and it is behind them; the walk is one of the first
-- step that is left; the steps that are left are the last ones of all; and each result is one of a step, and admissible.
pub record IsStandBy (Closed : At → PlainSection → Type 0) (Of : PlainStep → List ℕ → Walk → Type 0) (seed : List ℕ) (steps : List PlainStep) (s : Stand) : Type 0 where
  pub closed : Along Closed seed (first_search seed steps) s.past.closed
  pub here : comes_to seed (first_search seed steps) s.past.closed ≡ to_search seed s.left s.past.found
  pub walk : IsWalkAt Of seed s.left s.before s.walk
  pub left : (front : List PlainStep) × (steps ≡ front ++ s.left)
  pub found : AllByRecursion (IsResultOf steps) s.past.found

-- ---- whatever was gone on from

-- a section is that of the search to which the run comes, and its answer is none or admissible
abbrev pub IsKeptAt : At → PlainSection → Type 0
IsKeptAt at s = IsDueAt at s × IsFitAt at s

abbrev pub IsKeptWalk : PlainStep → List ℕ → Walk → Type 0
IsKeptWalk x before w = IsPosition x.problem w

abbrev pub IsStand : List ℕ → List PlainStep → Stand → Type 0
IsStand seed steps s = IsStandBy IsKeptAt IsKeptWalk seed steps s

-- ---- from the start

-- a section is that of the search to which the run comes, its letters are accepted with its answer, and this is the best
abbrev pub IsMadeAt : At → PlainSection → Type 0
IsMadeAt at s = IsDueAt at s × IsAcceptedAt at s × IsBestAt at s

abbrev pub IsMadeWalk : PlainStep → List ℕ → Walk → Type 0
IsMadeWalk x before w = (before ≡ []) × ((n : ℕ) × (w ≡ walk x.problem n))

abbrev pub IsFromStart : List ℕ → List PlainStep → Stand → Type 0
IsFromStart seed steps s = IsStandBy IsMadeAt IsMadeWalk seed steps s

-- the results that an end tells of
abbrev pub IsEndOf : List PlainStep → End → Type 0
IsEndOf steps (Ended o) = IfSome o (IsResultOf steps)
IsEndOf steps (Partial f) = IsResultOf steps f
IsEndOf steps Unfinished = Unit {0}
