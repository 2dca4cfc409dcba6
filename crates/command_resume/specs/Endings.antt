-- How a job that is gone on with ends, as the code tells it.
use Rattle.std.specs.Prelude.{ℕ, ◌≡◌, ◌<◌, ◌+◌, List, Option}
use Rattle.fund_outside.specs.Kept.{KeptJob}
use Rattle.kept_job.specs.SavingRules.{CanBeKept}
use Rattle.command_end.specs.Names.{Sources}
use Rattle.command_inputs.specs.Names.{Payment}
use Rattle.command_resume.specs.Resumed.{IsFunded, IsNotFunded, IsUnfinished}
use Rattle.command_inputs.specs.declared.funding.Ending.{Ending}
use Rattle.command_resume.specs.declared.resuming.LoadedJob.{LoadedJob}
use Rattle.command_inputs.specs.declared.funding.Ending.TheVariants as endings
use Rattle.command_inputs.specs.declared.funding.Left.{Left}

-- an unfinished plan can be kept behind what is kept of its log
pub record CanBeLeft (l : Left LoadedJob) : Type 0 where
  pub few : l.job.behind.parts < 4294967295
  pub can : CanBeKept l.plan (l.job.behind.parts + 1)

-- the plan is the one that went on, with the digest of its job, and it stands behind the parts that were loaded
pub record IsLeftBy (told_files told_jobs : Type 0) (files : List ℕ → List ℕ) (s : Sources) (p : Payment) (o : Option KeptJob) (l : Left LoadedJob) : Type 0 where
  pub unfinished : IsUnfinished told_files told_jobs files s p o l.report.items
  pub plan_is : l.plan ≡ unfinished.state
  pub digest_is : l.job.digest ≡ unfinished.gone.digest
  pub parts_are : l.job.behind.parts ≡ unfinished.gone.gone.saved.parts
  pub bytes_are : l.job.behind.bytes ≡ unfinished.gone.gone.bytes
  pub can : CanBeLeft l

-- this is how it ends
abbrev pub IsEnded : Type 0 → Type 0 → (List ℕ → List ℕ) → Sources → Payment → Option KeptJob → Ending LoadedJob → Type 0
IsEnded told_files told_jobs files s p o (endings.Unfinished left) = IsLeftBy told_files told_jobs files s p o left
IsEnded told_files told_jobs files s p o (endings.NoSelection texts) = IsNotFunded told_files told_jobs files s p o texts.report.items texts.log.items
IsEnded told_files told_jobs files s p o (endings.Funded texts) = IsFunded told_files told_jobs files s p o texts.report.items texts.log.items
