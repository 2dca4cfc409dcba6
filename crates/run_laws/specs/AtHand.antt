-- What there is to take of a run whose tries are used up.
use Rattle.std.specs.Prelude.{ℕ, ◌≡◌, List, ◌∷◌, ◌++◌}
use Rattle.std.specs.List.{AllByRecursion, flat_map}
use Rattle.pick_problem.specs.Admissible.{IsFit}
use Rattle.search_run.specs.Answer.{AreResults, AreWhole, HasNone, IsColumn}
use Rattle.search_run.specs.Found.{PlainFound, found_of}
use Rattle.search_run.specs.Run.{Stand, drawn_here}
use Rattle.search_run.specs.Step.{PlainStep}

-- A search is open. No step of a column before its own has a result. Of its own column there are the results of the steps
-- before it, its best so far, which is admissible where there is one, and what the draws behind it find.
pub record IsAtHand (seed : List ℕ) (steps : List PlainStep) (s : Stand) (fs : List PlainFound) : Type 0 where
  pub front : List PlainStep
  pub before : List PlainStep
  pub step : PlainStep
  pub behind : List PlainStep
  pub rest : List PlainStep
  pub parts : steps ≡ front ++ (before ++ step ∷ (behind ++ rest))
  pub whole : AreWhole front
  pub none : AllByRecursion (HasNone seed) front
  pub one : IsColumn (before ++ step ∷ behind)
  pub fit : IsFit step.problem s.walk.best
  pub found : List PlainFound
  pub results : AreResults seed before found
  pub is : fs ≡ found ++ (found_of step s.walk.best ++ flat_map (drawn_here seed) behind)
