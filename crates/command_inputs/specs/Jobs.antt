-- What becomes of kept jobs.
use Rattle.std.specs.Prelude.{ℕ, ◌≡◌, ◌≢◌, List, Option, Some}
use Rattle.fund_outside.specs.Kept.{KeeperView}
use Rattle.command_end.specs.declared.status.Status.{Status}
use Rattle.command_end.specs.declared.status.Status.TheVariants as statuses

-- a status with which a job may have been saved: the run is unfinished, or it was, and the report wasn't printed whole
abbrev pub MaySave : Status → Type 0
MaySave statuses.Unfinished = Unit {0}
MaySave statuses.WriteFault = Unit {0}
MaySave statuses.Memory = Unit {0}
MaySave _ = ⊥

-- What a command leaves of the jobs: each that it doesn't name is as before, and this one too unless the status says that it
-- may have been saved.
pub record KeepsJobs (job : Option (List ℕ)) (status : Status) (keeper keeper' : KeeperView) : Type 0 where
  pub others : (name : List ℕ) → job ≢ Some name → keeper'.jobs name ≡ keeper.jobs name
  pub all : (MaySave status → ⊥) → keeper'.jobs ≡ keeper.jobs
