-- What a payment, and what is said where there is none, claims of its plan. This speaks of pools, problems, best selections
-- and accepted logs.
use Rattle.std.specs.Prelude.{ℕ, ◌≡◌, ◌≢◌, ◌≤◌, ◌<◌, ◌⊎◌, ◌+ℤ◌, ◌++◌, min, true, false, List, [], ◌∷◌, All, length, None, Some}
use Rattle.std.specs.List.{AllByRecursion}
use Rattle.closing_log.specs.Log.{PlainLog}
use Rattle.closing_log.specs.declared.mark.Mark.{Mark}
use Rattle.closing_log.specs.declared.mark.Mark.TheVariants.{Exhausted, Partial, Drawn, Given}
use Rattle.pick_problem.specs.Admissible.{IsAdmissible}
use Rattle.pick_problem.specs.Best.{IsBest}
use Rattle.random_draw.specs.Draw.{draw_of}
use Rattle.search_run.specs.Answer.{HasNone, IsFirstTaken}
use Rattle.request_text.specs.PlainRequest.{paid_to}
use Rattle.request_text.specs.declared.request.Method.TheVariants.{Manual}
use Rattle.search_run.specs.Found.{IsTaken, PlainFound}
use Rattle.search_run.specs.Run.{results_in_column}
use Rattle.search_run.specs.Searched.{AreSectionsOf}
use Rattle.search_run.specs.Step.{PlainStep}
use Rattle.fund_steps.specs.Amounts.{value_of}
use Rattle.fund_steps.specs.Basis.{basis_of}
use Rattle.fund_steps.specs.Listed.{burden_in, presets_in}
use Rattle.fund_steps.specs.Plan.{PlainPlan}
use Rattle.fund_steps.specs.Reached.{NothingDoes}
use Rattle.fund_steps.specs.Searches.{rows_in}
use Rattle.fund_steps.specs.Terms.{load_of}
use Rattle.fund_plan.specs.Answer.{AnswersAlone}
use Rattle.fund_plan.specs.Chosen.{change_at, coins_at, row_of}
use Rattle.fund_plan.specs.Figures.{cost_of}
use Rattle.fund_plan.specs.Outcome.{log_at, most_tries, stand_after, tries_at}
use Rattle.fund_plan.specs.Pays.{due_of}
use Rattle.fund_plan.specs.Selection.{PlainFunded}
use Rattle.fund_plan.specs.Steps.{problem_at, steps_of}
use Rattle.fund_plan.specs.declared.outcome.Outcome.TheVariants as answers

-- the log has come to its end, and no section is open
abbrev pub IsWhole : PlainLog → Type 0
IsWhole log = (log.tail ≡ None) × (log.ended ≡ true)

-- The coins are the presets and those of groups of the pool of the named row, at the places of the best selection of the
-- problem of the named row and stage. No search and no draw of an earlier column has a result, and of those of its column it
-- is the one of least waste, of these of most coins, of these the first. The waste of the payment is that of the selection
-- and the cost of the presets. The log has a section for each search up to and with this column, in their order, and no
-- other; each is accepted with its answer, which is the best of its search.
pub record IsProvedBest (p : PlainPlan) (f : PlainFunded) (log : PlainLog) : Type 0 where
  pub found : PlainFound
  pub row_is : found.row ≡ f.row
  pub stage_is : found.stage ≡ f.stage
  pub best : IsBest (problem_at p (row_of p f.row) f.stage) (Some found.places)
  pub coins : f.coins ≡ coins_at p (row_of p f.row) found.places
  pub change : f.change ≡ change_at p (row_of p f.row) f.stage found.places
  pub measure : f.waste ≡ found.waste +ℤ cost_of p.request (presets_in p)
  pub first : IsFirstTaken p.request.seed (steps_of p) found
  pub sections : AreSectionsOf (first.front ++ first.column) log.closed
  pub whole : IsWhole log

-- The same of a draw: the places are those that are drawn by the request's seed from the problem of the named row and stage.
pub record IsProvedDrawn (p : PlainPlan) (f : PlainFunded) (log : PlainLog) : Type 0 where
  pub found : PlainFound
  pub row_is : found.row ≡ f.row
  pub stage_is : found.stage ≡ f.stage
  pub drawn : draw_of (problem_at p (row_of p f.row) f.stage) p.request.seed ≡ Some found.places
  pub coins : f.coins ≡ coins_at p (row_of p f.row) found.places
  pub change : f.change ≡ change_at p (row_of p f.row) f.stage found.places
  pub measure : f.waste ≡ found.waste +ℤ cost_of p.request (presets_in p)
  pub first : IsFirstTaken p.request.seed (steps_of p) found
  pub sections : AreSectionsOf (first.front ++ first.column) log.closed
  pub whole : IsWhole log

-- The run made each of its tries, the least of those that are asked for and 10,000,000; a search is open, and its next step
-- is a try.
pub record HasTried (p : PlainPlan) (n : ℕ) : Type 0 where
  pub made : tries_at p n ≡ min n most_tries
  pub step : PlainStep
  pub rest : List PlainStep
  pub left : (stand_after p n).left ≡ step ∷ rest
  pub going : (stand_after p n).walk.done ≡ false

-- The tries are used up, and the request takes what there is: the coins are the presets and those of an admissible selection
-- of the problem of the named row and stage. Of the results at hand in the column of the open search it is the one of least
-- waste, of these of most coins, of these the first.
pub record IsTakenShort (p : PlainPlan) (n : ℕ) (f : PlainFunded) : Type 0 where
  pub found : PlainFound
  pub row_is : found.row ≡ f.row
  pub stage_is : found.stage ≡ f.stage
  pub admissible : IsAdmissible (problem_at p (row_of p f.row) f.stage) found.places
  pub coins : f.coins ≡ coins_at p (row_of p f.row) found.places
  pub change : f.change ≡ change_at p (row_of p f.row) f.stage found.places
  pub measure : f.waste ≡ found.waste +ℤ cost_of p.request (presets_in p)
  pub asked : p.request.take ≡ true
  pub taken : IsTaken (results_in_column p.request.seed (stand_after p n) (stand_after p n).left) found
  pub used_up : HasTried p n

-- the presets alone pay, and the log has no search
pub record IsGivenAlone (p : PlainPlan) (f : PlainFunded) (log : PlainLog) : Type 0 where
  pub alone : AnswersAlone p (answers.Funded f)
  pub none : log ≡ record { closed = []; tail = None; ended = true }

-- What the mark of a payment claims beside that it pays, of a plan after at most so many tries.
abbrev pub ClaimsBy : Mark → PlainPlan → ℕ → PlainFunded → Type 0
ClaimsBy Exhausted p n f = IsProvedBest p f (log_at p n)
ClaimsBy Partial p n f = IsTakenShort p n f
ClaimsBy Drawn p n f = IsProvedDrawn p f (log_at p n)
ClaimsBy Given p n f = IsGivenAlone p f (log_at p n)

abbrev pub Claims : PlainPlan → ℕ → PlainFunded → Type 0
Claims p n f = ClaimsBy f.mark p n f

-- the presets bring what is due without change, and there is one
pub record BringAll (p : PlainPlan) : Type 0 where
  pub some : 0 < length (presets_in p)
  pub enough : due_of p.request.rate (load_of p.request p.change (presets_in p) (burden_in p)) (presets_in p) (paid_to p.request.recipients) ≤ value_of (presets_in p)

-- No search and no draw of the plan has a result, and the log has a section for each search, in their order, and no other,
-- which is accepted with no answer. No transaction from exactly the presets pays; and unless they bring all that is due, no
-- choice from any row's pool does for what the method looks for.
pub record IsProvedNone (p : PlainPlan) (log : PlainLog) : Type 0 where
  pub none : AllByRecursion (HasNone p.request.seed) (steps_of p)
  pub sections : AreSectionsOf (steps_of p) log.closed
  pub whole : IsWhole log
  pub alone : AnswersAlone p answers.NoSelection
  pub nothing : p.request.method ≢ Manual → (BringAll p → ⊥) → All (NothingDoes (basis_of p)) (rows_in (basis_of p))

-- The tries are used up, and nothing is taken: the request takes no result for want of tries, or none is at hand in the
-- column of the open search.
pub record IsUsedUp (p : PlainPlan) (n : ℕ) : Type 0 where
  pub made : tries_at p n ≡ min n most_tries
  pub step : PlainStep
  pub rest : List PlainStep
  pub left : (stand_after p n).left ≡ step ∷ rest
  pub going : (stand_after p n).walk.done ≡ false
  pub nothing : (p.request.take ≡ false) ⊎ (results_in_column p.request.seed (stand_after p n) (stand_after p n).left ≡ [])
