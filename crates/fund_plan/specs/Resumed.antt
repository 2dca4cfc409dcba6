-- What is kept of a plan that isn't finished, and going on from it.
use Rattle.std.specs.Prelude.{ℕ, ◌≡◌, ◌≤◌, List, Option, None, Some, if◌then◌else◌}
use Rattle.sha2.specs.Sha256.{sha256}
use Rattle.closing_log.specs.Log.{PlainLog, PlainSection}
use Rattle.closing_log.specs.LogText.{text_of}
use Rattle.log_checker.specs.declared.fault.LogFault.{LogFault}
use Rattle.log_checker.specs.declared.fault.LogFault.TheVariants as logs
use Rattle.search_keep.specs.Resumed.{MayGoOn}
use Rattle.search_keep.specs.SavedText.{PlainSaved}
use Rattle.search_keep.specs.declared.fault.SavedFault.{SavedFault}
use Rattle.search_keep.specs.declared.fault.SavedFault.TheVariants as saved
use Rattle.search_run.specs.Judged.{IsFirstRefused, IsRefusedFor, saved_in}
use Rattle.search_run.specs.Kept.{Along, CanGoOn, IsAcceptedAt, first_search, log_of, saved_of, stand_of}
use Rattle.search_run.specs.Runs.{saved_with}
use Rattle.search_run.specs.Stands.{IsStand}
use Rattle.search_run.specs.declared.fault.RestoreRefused.{RestoreRefused}
use Rattle.search_run.specs.declared.fault.RestoreRefused.TheVariants as refused
use Rattle.search_run.specs.declared.fault.VerifyFault.{VerifyFault}
use Rattle.search_run.specs.declared.fault.VerifyFault.TheVariants as verified
use Rattle.fund_steps.specs.Plan.{PlainPlan}
use Rattle.fund_plan.specs.Outcome.{is_partial}
use Rattle.fund_plan.specs.State.{PlanState, end_in}
use Rattle.fund_plan.specs.Steps.{steps_of}
use Rattle.fund_plan.specs.declared.fault.CheckAt.{CheckAt}
use Rattle.fund_plan.specs.declared.fault.CheckAt.TheVariants as check
use Rattle.fund_plan.specs.declared.fault.PlanSavedFault.{PlanSavedFault}
use Rattle.fund_plan.specs.declared.fault.PlanSavedFault.TheVariants as planned

-- ---- what is kept

-- its log, as it is reported and kept
abbrev pub log_in : PlanState → PlainLog
log_in s = log_of (is_partial (end_in s)) s.stand

-- the digest of its log's text
abbrev pub log_digest : PlanState → List ℕ
log_digest s = sha256 (text_of (log_in s))

-- What is saved of it beside its log, for this job and so many parts of the log, with the log's digest: nothing where a
-- result was taken for want of tries, or no step is left.
abbrev pub saved_at : List ℕ → ℕ → PlanState → Option PlainSaved
saved_at job parts s = if is_partial (end_in s) then None else saved_with job parts (Some (log_digest s)) (saved_of s.stand)

-- ---- going on from it

-- where a plan stands that goes on from what is kept; no result is taken
abbrev pub restored_at : PlainPlan → PlainSaved → PlainLog → PlanState
restored_at p s log = record { plan = p; stand = stand_of p.request.seed (steps_of p) (saved_in s) log; partial = None }

-- What a plan can go on from: what is saved of this job, which has tries left, and a log whose sections are those of the
-- plan's searches, with a position and answers that may be there.
pub record CanRestore (p : PlainPlan) (now : List ℕ) (s : PlainSaved) (log : PlainLog) : Type 0 where
  pub due : MayGoOn s now
  pub can : CanGoOn p.request.seed (steps_of p) (saved_in s) log

-- its run stands where one may stand: where it begins, where it goes on from what is kept, and where tries lead from there
abbrev pub IsStandOf : PlanState → Type 0
IsStandOf s = IsStand s.plan.request.seed (steps_of s.plan) s.stand

-- ---- why not

-- why a run over its steps isn't gone on with
abbrev pub IsRefusedIn : PlainPlan → PlainSaved → PlainLog → RestoreRefused → Type 0
IsRefusedIn p s log e = IsRefusedFor p.request.seed (steps_of p) (saved_in s) log e

-- What is saved is of another job, which is told with this one; or it is of this one, which has no tries left; or the job
-- is due, no section is wrong, and no walk may stand at the saved position.
abbrev pub IsSavedFault : PlainPlan → List ℕ → PlainSaved → PlainLog → SavedFault → Type 0
IsSavedFault p now s log (saved.JobElse kept given) = (kept ≡ s.job) × (given ≡ now) × (s.job ≡ now → ⊥)
IsSavedFault p now s log saved.Spent = (s.job ≡ now) × (10_000_000 ≤ s.tries)
IsSavedFault p now s log saved.IllFormed = MayGoOn s now × IsRefusedIn p s log refused.IllFormed
IsSavedFault p now s log saved.Memory = ⊥
IsSavedFault p now s log (saved.Form place) = ⊥

-- the job is due, no section is wrong, the position is right, and the answer at this index, the first one, isn't admissible
abbrev pub IsAnswerFault : PlainPlan → List ℕ → PlainSaved → PlainLog → ℕ → LogFault → Type 0
IsAnswerFault p now s log i logs.AnswerNotAdmissible = MayGoOn s now × IsRefusedIn p s log (refused.Answer i)
IsAnswerFault p now s log i _ = ⊥

-- the job is due, and the section at this index is wrong; or such an answer
abbrev pub IsFalseAt : PlainPlan → List ℕ → PlainSaved → PlainLog → CheckAt → Type 0
IsFalseAt p now s log (check.Section i) = MayGoOn s now × IsRefusedIn p s log (refused.Section i)
IsFalseAt p now s log (check.Log i f) = IsAnswerFault p now s log i f
IsFalseAt p now s log check.Memory = ⊥

-- why a plan doesn't go on from what is kept
abbrev pub IsNotRestored : PlainPlan → List ℕ → PlainSaved → PlainLog → PlanSavedFault → Type 0
IsNotRestored p now s log (planned.Saved f) = IsSavedFault p now s log f
IsNotRestored p now s log (planned.False at) = IsFalseAt p now s log at
IsNotRestored p now s log planned.Memory = Unit {0}

-- a refusal of the run as one of the plan
abbrev pub fault_of : RestoreRefused → PlanSavedFault
fault_of (refused.Section i) = planned.False (check.Section i)
fault_of refused.IllFormed = planned.Saved saved.IllFormed
fault_of (refused.Answer i) = planned.False (check.Log i logs.AnswerNotAdmissible)
fault_of refused.Memory = planned.Memory

-- ---- whether its log is accepted

-- each finished section is accepted with its answer as the log of the search to which the run comes there
abbrev pub AreAccepted : PlainPlan → List PlainSection → Type 0
AreAccepted p sections = Along IsAcceptedAt p.request.seed (first_search p.request.seed (steps_of p)) sections

-- the section at this index is the first that isn't accepted, and it has this fault
abbrev pub IsCheckFault : PlainPlan → List PlainSection → CheckAt → Type 0
IsCheckFault p sections (check.Log i f) = IsFirstRefused p.request.seed (first_search p.request.seed (steps_of p)) sections i f
IsCheckFault p sections (check.Section i) = ⊥
IsCheckFault p sections check.Memory = Unit {0}

-- a fault of the run's log as one of the plan's
abbrev pub check_of : VerifyFault → CheckAt
check_of (verified.Log i f) = check.Log i f
check_of verified.Memory = check.Memory
