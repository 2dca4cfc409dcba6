-- What becomes of kept jobs.
use Rattle.std.specs.Prelude.{ℕ, ◌≡◌, List, [], Option, Some, None}
use Rattle.fund_outside.specs.Kept.{KeeperView, SameForOthers}
use Rattle.fund_plan.specs.State.{moved}
use Rattle.fund_steps.specs.Plan.{PlainPlan}
use Rattle.kept_job.specs.Kept.{IsKeptAt, new_of}
use Rattle.kept_job.specs.Saving.{IsSavedBehind}
use Rattle.command_end.specs.Names.{Sources}
use Rattle.command_inputs.specs.Digest.{digest_in}
use Rattle.command_inputs.specs.Names.{Payment}

-- What is kept of a run of the files that is unfinished after so many tries: without a job nothing; otherwise this job, as
-- the run was left, and in one part, whatever was kept of it before, with the digest of the files where they are told. Other
-- jobs are as before.
abbrev pub IsLeft : Type 0 → (List ℕ → List ℕ) → Sources → Payment → PlainPlan → (tries : ℕ) → Option (List ℕ) → KeeperView → KeeperView → Type 0
IsLeft told_files files s p plan n None keeper keeper' = keeper'.jobs ≡ keeper.jobs
IsLeft told_files files s p plan n (Some job) keeper keeper' =
    SameForOthers job keeper.jobs keeper'.jobs
    × ((digest : List ℕ) × (told_files → digest ≡ digest_in files s p) × IsKeptAt plan digest n (keeper'.jobs job)
    × IsSavedBehind digest (moved (new_of plan) n) 0 [] (keeper.jobs job) (keeper'.jobs job))
