-- Going on from a kept job, as the code does it.
use Rattle.std.specs.Prelude.{ℕ, ◌≡◌, Bool, true, false, List, Option}
use Rattle.closing_log.specs.LogText.{IsLogText}
use Rattle.fund_outside.specs.Kept.{KeptJob}
use Rattle.fund_plan.specs.State.{PlanState}
use Rattle.fund_plan.specs.declared.outcome.Outcome.{Outcome}
use Rattle.fund_steps.specs.Plan.{PlainPlan}
use Rattle.search_keep.specs.SavedText.{CanBeSaved}
use Rattle.kept_job.specs.Continued.{HasContinued, IsSettled}
use Rattle.kept_job.specs.declared.fault.KeptFault.{KeptFault}
use Rattle.kept_job.specs.declared.fault.KeptFault.TheVariants.{Log, Memory}
use Rattle.kept_job.specs.declared.resuming.Resumed.{Resumed}

-- an outcome is an answer exactly where this is so
abbrev pub IfTrueSettled : Bool → Outcome → Type 0
IfTrueSettled true o = IsSettled o
IfTrueSettled false o = IsSettled o → ⊥

-- the plan went on from the job, whose counted parts were joined these bytes; its log was read from a text
pub record HasResumed (told_jobs : Type 0) (p : PlainPlan) (now : List ℕ) (o : Option KeptJob) (tries : ℕ) (s : PlanState) (r : Resumed) : Type 0 where
  pub gone : HasContinued told_jobs p now o tries s r.outcome
  pub can : CanBeSaved gone.saved
  pub parts_are : r.behind.parts ≡ gone.saved.parts
  pub bytes_are : r.behind.bytes ≡ gone.bytes
  pub read : (bytes : List ℕ) × IsLogText bytes gone.log

-- What a fault leaves of a plan: it is as before, unless tries were made or memory was short.
abbrev pub IsLeftAs : PlanState → PlanState → KeptFault → Type 0
IsLeftAs old new (Log i f) = Unit {0}
IsLeftAs old new Memory = Unit {0}
IsLeftAs old new _ = new ≡ old
