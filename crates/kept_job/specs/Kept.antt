-- A job as a run of its files was left: the saved text and the parts of the log of a plan after so many tries.
use Rattle.std.specs.Prelude.{ℕ, ◌≡◌, ◌≤◌, List, [], ◌∷◌, ◌++◌, length, take, Option, Some, None}
use Rattle.closing_log.specs.LogText as logs
use Rattle.closing_log.specs.LogText.{IsLogText}
use Rattle.fund_outside.specs.Kept.{KeptJob, parts_in}
use Rattle.fund_plan.specs.Outcome.{beginning_of, log_at, outcome_at, tries_at}
use Rattle.fund_plan.specs.Resumed.{log_digest, log_in, saved_at}
use Rattle.fund_plan.specs.State.{PlanState, moved}
use Rattle.fund_plan.specs.declared.outcome.Outcome.{Outcome}
use Rattle.fund_steps.specs.Plan.{PlainPlan}
use Rattle.search_keep.specs.SavedText.{IsSavedText, PlainSaved, text_of}
use Rattle.kept_job.specs.Jobs.{IsOfLog, joined, with_log}

-- The job is kept as a plan was left that is unfinished: its saved text is what is saved of the plan for this digest, with
-- the number of its parts, or the same position without a digest of the log; these parts are there, and joined they are the
-- text of the plan's log. Both texts read as what they were written from. Parts behind the counted ones don't matter.
pub record IsKeptJob (digest : List ℕ) (s : PlanState) (o : Option KeptJob) : Type 0 where
  pub job : KeptJob
  pub is : o ≡ Some job
  pub saved : PlainSaved
  pub saves : saved_at digest saved.parts s ≡ Some (with_log saved (log_digest s))
  pub digest_is : IsOfLog saved (log_digest s)
  pub text : job.saved ≡ text_of saved
  pub reads : IsSavedText job.saved saved
  pub there : saved.parts ≤ length job.parts
  pub log : joined (take saved.parts job.parts) ≡ logs.text_of (log_in s)
  pub log_reads : IsLogText (joined (take saved.parts job.parts)) (log_in s)

-- a new plan, of which no try is made
abbrev pub new_of : PlainPlan → PlanState
new_of p = record { plan = p; stand = beginning_of p; partial = None }

-- The job is kept as the run of a plan is left after so many tries from its start, in however many pieces they were made.
abbrev pub IsKeptAt : PlainPlan → (digest : List ℕ) → (tries : ℕ) → Option KeptJob → Type 0
IsKeptAt p digest n o = IsKeptJob digest (moved (new_of p) n) o

-- the parts of a job that were counted are as they were, and one stands behind them
pub record IsLonger (count : ℕ) (old new : Option KeptJob) : Type 0 where
  pub part : List ℕ
  pub parts : parts_in new ≡ take count (parts_in old) ++ part ∷ []

-- where a plan stands, and what it comes to, is what comes of so many tries from the start, without a stop
pub record IsAsAfter (p : PlainPlan) (n : ℕ) (s : PlanState) (o : Outcome) : Type 0 where
  pub outcome : o ≡ outcome_at p n
  pub tries : s.stand.past.tries ≡ tries_at p n
  pub log : log_in s ≡ log_at p n
