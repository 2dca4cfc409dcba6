-- How a run that is unfinished is left: it is kept where there is a job, and its report is printed.
use Rattle.std.specs.Prelude.{ℕ, ◌≡◌, ◌⊎◌, List, [], codes, Option, Some, None, IsSome}
use Rattle.fund_shelf.specs.Causes.{Rose, SinkView}
use Rattle.fund_outside.specs.Kept.{KeeperView, SameForOthers}
use Rattle.fund_plan.specs.State.{PlanState}
use Rattle.kept_job.specs.Saving.{IsSavedBehind}
use Rattle.command_end.specs.Lines.{GotLine, fault_line}
use Rattle.command_end.specs.Printed.{IsPut}
use Rattle.command_end.specs.declared.status.Status.{Status}
use Rattle.command_end.specs.declared.status.Status.TheVariants as statuses
use Rattle.command_inputs.specs.declared.funding.Left.{Left}

-- what a save of a plan leaves of its job, with its digest, and of the others
abbrev pub IsSavedAnew : Type 0 → PlanState → (job digest : Option (List ℕ)) → KeeperView → KeeperView → Type 0
IsSavedAnew told_jobs plan (Some job) (Some digest) keeper keeper' = told_jobs →
    SameForOthers job keeper.jobs keeper'.jobs × IsSavedBehind digest plan 0 [] (keeper.jobs job) (keeper'.jobs job)
IsSavedAnew told_jobs plan (Some job) None keeper keeper' = keeper' ≡ keeper
IsSavedAnew told_jobs plan None digest keeper keeper' = keeper' ≡ keeper

-- Nothing was kept: the keeper failed, or there was not enough memory; with its line.
abbrev pub IsNotLeft : Type 0 → Option (List ℕ) → SinkView → SinkView → KeeperView → KeeperView → Status → Type 0
IsNotLeft told job sink sink' keeper keeper' status =
    ((status ≡ statuses.KeepFault) × IsSome job × Rose keeper.faults keeper'.faults × (told → GotLine (fault_line (codes "keep")) sink sink'))
    ⊎ ((status ≡ statuses.Memory) × (told → GotLine (fault_line (codes "memory")) sink sink'))

-- It was kept, or there is no job, and the report was put, or a part of it; or it wasn't, and the jobs are as before.
abbrev pub HasLeft : Type 0 → Type 0 → (job digest : Option (List ℕ)) → Left (Unit {0}) → SinkView → SinkView → KeeperView → KeeperView → Status → Type 0
HasLeft told told_jobs job digest left sink sink' keeper keeper' status =
    (IsPut told left.report.items statuses.Unfinished sink sink' status × IsSavedAnew told_jobs left.plan job digest keeper keeper')
    ⊎ (IsNotLeft told job sink sink' keeper keeper' status × (told_jobs → keeper'.jobs ≡ keeper.jobs))
