-- Why a kept job isn't gone on with: the first of its faults, in the order in which they are told.
use Rattle.std.specs.Prelude.{ℕ, ◌≡◌, ◌<◌, ◌≤◌, ◌⊎◌, List, length, take, Option, Some, None}
use Rattle.sha2.specs.Sha256.{sha256}
use Rattle.closing_log.specs.Exact.{IsFirstFault}
use Rattle.closing_log.specs.Log.{PlainLog}
use Rattle.closing_log.specs.LogText.{IsCount, IsLogText}
use Rattle.fund_outside.specs.Kept.{KeptJob, parts_in}
use Rattle.fund_plan.specs.Resumed.{CanRestore, IsCheckFault, IsNotRestored, restored_at}
use Rattle.fund_plan.specs.State.{moved, told}
use Rattle.fund_plan.specs.declared.fault.CheckAt.TheVariants as check
use Rattle.fund_plan.specs.declared.fault.PlanSavedFault.{PlanSavedFault}
use Rattle.fund_plan.specs.declared.fault.PlanSavedFault.TheVariants as planned
use Rattle.fund_steps.specs.Plan.{PlainPlan}
use Rattle.log_checker.specs.declared.fault.LogFault.{LogFault}
use Rattle.search_keep.specs.SavedText.{IsSavedText, PlainSaved}
use Rattle.search_keep.specs.declared.fault.SavedFault.TheVariants as saved_faults
use Rattle.kept_job.specs.Continued.{IsSettled}
use Rattle.kept_job.specs.Jobs.{HasDue, HasParts, HasSaved, IsLoaded, IsOfLog, joined, most_bytes}
use Rattle.kept_job.specs.declared.fault.KeptFault.{KeptFault}
use Rattle.kept_job.specs.declared.fault.KeptFault.TheVariants.{NoJob, Form, JobElse, Spent, Part, LongLog, Parts, Section, IllFormed, Log, Failed, Memory}

-- ---- what is loaded

-- the saved text leaves its grammar at this place
pub record HasNoForm (o : Option KeptJob) (place : ℕ) : Type 0 where
  pub job : KeptJob
  pub is : o ≡ Some job
  pub first : IsFirstFault IsSavedText job.saved place

-- it is saved of a job of other files; both digests are told
pub record IsElse (now : List ℕ) (o : Option KeptJob) (kept given : List ℕ) : Type 0 where
  pub saved : PlainSaved
  pub has : HasSaved o saved
  pub kept_is : kept ≡ saved.job
  pub given_is : given ≡ now
  pub other : saved.job ≡ now → ⊥

-- it is saved of this job, which has made all its tries
pub record IsSpent (now : List ℕ) (o : Option KeptJob) : Type 0 where
  pub saved : PlainSaved
  pub has : HasSaved o saved
  pub own : saved.job ≡ now
  pub tries : 10_000_000 ≤ saved.tries

-- Of so many parts the one of this number is missing: the parts before it are all that there are, and they are within the
-- limit.
pub record LacksPart (o : Option KeptJob) (count number : ℕ) : Type 0 where
  pub counted : number < count
  pub all : number ≡ length (parts_in o)
  pub fits : length (joined (parts_in o)) ≤ most_bytes

-- the parts up to some number, which are there, are longer than the limit
abbrev pub AreTooLong : Option KeptJob → ℕ → Type 0
AreTooLong o count = most_bytes < length (joined (take count (parts_in o)))

-- the parts are there and within the limit, and the saved digest of the log isn't that of them; both are told
pub record AreElse (now : List ℕ) (o : Option KeptJob) (kept given : List ℕ) : Type 0 where
  pub saved : PlainSaved
  pub bytes : List ℕ
  pub due : HasDue now o saved
  pub parts : HasParts o saved.parts bytes
  pub kept_is : saved.log ≡ Some kept
  pub given_is : given ≡ sha256 bytes
  pub other : kept ≡ given → ⊥

-- the joined parts are no text of a log, and so many sections stand before the place where they leave it
pub record IsNoLog (bytes : List ℕ) (sections : ℕ) : Type 0 where
  pub place : ℕ
  pub first : IsFirstFault IsLogText bytes place
  pub count : IsCount bytes place sections

-- why parts aren't joined
abbrev pub IsPartFault : Option KeptJob → ℕ → KeptFault → Type 0
IsPartFault o count (Part number) = LacksPart o count number
IsPartFault o count LongLog = AreTooLong o count
IsPartFault o count Failed = Unit {0}
IsPartFault o count Memory = Unit {0}
IsPartFault o count _ = ⊥

-- why nothing is loaded of a job
abbrev pub IsNotLoaded : (now : List ℕ) → Option KeptJob → KeptFault → Type 0
IsNotLoaded now o NoJob = o ≡ None
IsNotLoaded now o (Form place) = HasNoForm o place
IsNotLoaded now o (JobElse kept given) = IsElse now o kept given
IsNotLoaded now o Spent = IsSpent now o
IsNotLoaded now o (Part number) = (saved : PlainSaved) × HasDue now o saved × LacksPart o saved.parts number
IsNotLoaded now o LongLog = (saved : PlainSaved) × HasDue now o saved × AreTooLong o saved.parts
IsNotLoaded now o (Parts kept given) = AreElse now o kept given
IsNotLoaded now o (Section i) = (saved : PlainSaved) × (bytes : List ℕ) × HasDue now o saved × HasParts o saved.parts bytes × IsOfLog saved (sha256 bytes) × IsNoLog bytes i
IsNotLoaded now o IllFormed = ⊥
IsNotLoaded now o (Log i f) = ⊥
IsNotLoaded now o Failed = Unit {0}
IsNotLoaded now o Memory = Unit {0}

-- ---- what is gone on with

-- a job is loaded, and the plan doesn't go on from it
pub record IsNotGoneOn (p : PlainPlan) (now : List ℕ) (o : Option KeptJob) (fault : PlanSavedFault) : Type 0 where
  pub saved : PlainSaved
  pub log : PlainLog
  pub bytes : List ℕ
  pub loaded : IsLoaded now o saved log bytes
  pub refused : IsNotRestored p now saved log fault

-- The plan goes on from the job and comes to its end with so many tries, and of its whole log, the sections from before
-- among them, the one at this index is the first that isn't accepted.
pub record IsFoundOut (p : PlainPlan) (now : List ℕ) (o : Option KeptJob) (tries : ℕ) (i : ℕ) (f : LogFault) : Type 0 where
  pub saved : PlainSaved
  pub log : PlainLog
  pub bytes : List ℕ
  pub loaded : IsLoaded now o saved log bytes
  pub can : CanRestore p now saved log
  pub settled : IsSettled (told (moved (restored_at p saved log) tries))
  pub fault : IsCheckFault p (moved (restored_at p saved log) tries).stand.past.closed (check.Log i f)

-- Why a job isn't gone on with, or isn't answered, with so many tries more.
abbrev pub IsNotResumed : PlainPlan → (now : List ℕ) → Option KeptJob → (tries : ℕ) → KeptFault → Type 0
IsNotResumed p now o m (Section i) = IsNotLoaded now o (Section i) ⊎ IsNotGoneOn p now o (planned.False (check.Section i))
IsNotResumed p now o m IllFormed = IsNotGoneOn p now o (planned.Saved saved_faults.IllFormed)
IsNotResumed p now o m (Log i f) = IsNotGoneOn p now o (planned.False (check.Log i f)) ⊎ IsFoundOut p now o m i f
IsNotResumed p now o m fault = IsNotLoaded now o fault

-- a fault of the job itself: the keeper didn't fail, and there was memory
abbrev pub IsOfJob : KeptFault → Type 0
IsOfJob Failed = ⊥
IsOfJob Memory = ⊥
IsOfJob _ = Unit {0}
