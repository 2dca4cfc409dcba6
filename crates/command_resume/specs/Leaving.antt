-- How a run that is unfinished is left: its job goes on, and its report is printed.
use Rattle.std.specs.Prelude.{ℕ, ◌≡◌, ◌⊎◌, List, codes}
use Rattle.fund_shelf.specs.Causes.{Rose, SinkView}
use Rattle.fund_outside.specs.Kept.{KeeperView, SameForOthers}
use Rattle.kept_job.specs.Saving.{IsSavedBehind}
use Rattle.command_end.specs.Lines.{GotLine, fault_line}
use Rattle.command_end.specs.Printed.{IsPut}
use Rattle.command_end.specs.declared.status.Status.{Status}
use Rattle.command_end.specs.declared.status.Status.TheVariants as statuses
use Rattle.command_inputs.specs.declared.funding.Left.{Left}
use Rattle.command_resume.specs.declared.resuming.LoadedJob.{LoadedJob}

-- the job is saved behind what was kept of it, and the others are as before
pub record IsSavedOn (job : List ℕ) (left : Left LoadedJob) (keeper keeper' : KeeperView) : Type 0 where
  pub saved : IsSavedBehind left.job.digest left.plan left.job.behind.parts left.job.behind.bytes (keeper.jobs job) (keeper'.jobs job)
  pub others : SameForOthers job keeper.jobs keeper'.jobs

-- Nothing was kept: the keeper failed, or there was not enough memory; with its line.
abbrev pub IsNotLeft : Type 0 → SinkView → SinkView → KeeperView → KeeperView → Status → Type 0
IsNotLeft told sink sink' keeper keeper' status =
    ((status ≡ statuses.KeepFault) × Rose keeper.faults keeper'.faults × (told → GotLine (fault_line (codes "keep")) sink sink'))
    ⊎ ((status ≡ statuses.Memory) × (told → GotLine (fault_line (codes "memory")) sink sink'))

-- It was kept, and the report was put, or a part of it; or it wasn't, and the jobs are as before.
abbrev pub HasLeft : Type 0 → Type 0 → List ℕ → Left LoadedJob → SinkView → SinkView → KeeperView → KeeperView → Status → Type 0
HasLeft told told_jobs job left sink sink' keeper keeper' status =
    (IsPut told left.report.items statuses.Unfinished sink sink' status × (told_jobs → IsSavedOn job left keeper keeper'))
    ⊎ (IsNotLeft told sink sink' keeper keeper' status × (told_jobs → keeper'.jobs ≡ keeper.jobs))
