-- A plan that went on from a kept job, and what it then claims.
use Rattle.std.specs.Prelude.{ℕ, ◌≡◌, ◌⊎◌, ◌+◌, ◌-◌, ◌+ℤ◌, min, true, false, List, [], ◌∷◌, Option}
use Rattle.closing_log.specs.Log.{PlainLog}
use Rattle.closing_log.specs.declared.mark.Mark.{Mark}
use Rattle.closing_log.specs.declared.mark.Mark.TheVariants.{Exhausted, Partial, Drawn, Given}
use Rattle.fund_outside.specs.Kept.{KeptJob}
use Rattle.fund_plan.specs.Chosen.{change_at, coins_at, row_of}
use Rattle.fund_plan.specs.Claims.{IsProvedBest, IsProvedDrawn, IsProvedNone}
use Rattle.fund_plan.specs.Figures.{cost_of}
use Rattle.fund_plan.specs.Outcome.{IsAnswerOf, most_tries}
use Rattle.fund_plan.specs.Resumed.{AreAccepted, CanRestore, log_in, restored_at}
use Rattle.fund_plan.specs.Selection.{PlainFunded}
use Rattle.fund_plan.specs.State.{PlanState, moved, told}
use Rattle.fund_plan.specs.Steps.{problem_at}
use Rattle.fund_plan.specs.declared.outcome.Outcome.{Outcome}
use Rattle.fund_plan.specs.declared.outcome.Outcome.TheVariants as answers
use Rattle.fund_steps.specs.Listed.{presets_in}
use Rattle.fund_steps.specs.Plan.{PlainPlan}
use Rattle.pick_problem.specs.Admissible.{IsAdmissible}
use Rattle.search_keep.specs.SavedText.{PlainSaved}
use Rattle.search_run.specs.Found.{IsTaken, PlainFound}
use Rattle.search_run.specs.Run.{results_in_column}
use Rattle.search_run.specs.Step.{PlainStep}
use Rattle.kept_job.specs.Jobs.{IsLoaded}

-- ---- going on

-- the mark of a result that isn't taken for want of tries
abbrev pub IsSettledMark : Mark → Type 0
IsSettledMark Partial = ⊥
IsSettledMark _ = Unit {0}

-- the outcome is an answer: a payment that wasn't taken for want of tries, or that there is none
abbrev pub IsSettled : Outcome → Type 0
IsSettled answers.Unfinished = ⊥
IsSettled answers.NoSelection = Unit {0}
IsSettled (answers.Funded f) = IsSettledMark f.mark

-- The plan went on from a kept job with so many tries, and came to this. What was loaded of the job is something that it can
-- go on from. Where it comes to an answer, its whole log is accepted, the sections from before among them. Where the keeper
-- tells its jobs, what was loaded is this job's.
pub record HasContinued (told_jobs : Type 0) (p : PlainPlan) (now : List ℕ) (o : Option KeptJob) (tries : ℕ) (s : PlanState) (outcome : Outcome) : Type 0 where
  pub saved : PlainSaved
  pub log : PlainLog
  pub bytes : List ℕ
  pub loaded : told_jobs → IsLoaded now o saved log bytes
  pub can : CanRestore p now saved log
  pub stands : s ≡ moved (restored_at p saved log) tries
  pub comes_to : outcome ≡ told s
  pub accepted : IsSettled outcome → AreAccepted p s.stand.past.closed

-- ---- what it claims

-- The plan has made each try that it was given, of those that the job had left; a search is open, and its next step is a try.
pub record HasAddedTries (from : ℕ) (tries : ℕ) (s : PlanState) : Type 0 where
  pub made : s.stand.past.tries ≡ from + min tries (most_tries - from)
  pub step : PlainStep
  pub rest : List PlainStep
  pub left : s.stand.left ≡ step ∷ rest
  pub going : s.stand.walk.done ≡ false

-- The tries are used up, and the request takes what there is: of the results at hand in the column of the open search the one
-- of least waste, of these of most coins, of these the first. It is an admissible selection of the problem of the named row
-- and stage.
pub record IsTakenOn (p : PlainPlan) (from tries : ℕ) (s : PlanState) (f : PlainFunded) : Type 0 where
  pub found : PlainFound
  pub row_is : found.row ≡ f.row
  pub stage_is : found.stage ≡ f.stage
  pub admissible : IsAdmissible (problem_at p (row_of p f.row) f.stage) found.places
  pub coins : f.coins ≡ coins_at p (row_of p f.row) found.places
  pub change : f.change ≡ change_at p (row_of p f.row) f.stage found.places
  pub measure : f.waste ≡ found.waste +ℤ cost_of p.request (presets_in p)
  pub asked : p.request.take ≡ true
  pub taken : IsTaken (results_in_column p.request.seed s.stand s.stand.left) found
  pub used_up : HasAddedTries from tries s

-- What the mark of a payment claims beside that it pays, of a plan that went on. A plan with a search to go on with isn't one
-- of presets alone.
abbrev pub ClaimsOnBy : Mark → PlainPlan → (from tries : ℕ) → PlanState → PlainFunded → Type 0
ClaimsOnBy Exhausted p from tries s f = IsProvedBest p f (log_in s) × IsAnswerOf p (answers.Funded f)
ClaimsOnBy Partial p from tries s f = IsTakenOn p from tries s f
ClaimsOnBy Drawn p from tries s f = IsProvedDrawn p f (log_in s) × IsAnswerOf p (answers.Funded f)
ClaimsOnBy Given p from tries s f = ⊥

abbrev pub ClaimsOn : PlainPlan → (from tries : ℕ) → PlanState → PlainFunded → Type 0
ClaimsOn p from tries s f = ClaimsOnBy f.mark p from tries s f

-- what is claimed where there is no selection
abbrev pub ClaimsNoneOn : PlainPlan → PlanState → Type 0
ClaimsNoneOn p s = IsProvedNone p (log_in s) × IsAnswerOf p answers.NoSelection

-- The tries are used up, and nothing is taken: the request takes no result for want of tries, or none is at hand in the
-- column of the open search.
pub record IsUsedUpOn (p : PlainPlan) (from tries : ℕ) (s : PlanState) : Type 0 where
  pub used_up : HasAddedTries from tries s
  pub nothing : (p.request.take ≡ false) ⊎ (results_in_column p.request.seed s.stand s.stand.left ≡ [])
