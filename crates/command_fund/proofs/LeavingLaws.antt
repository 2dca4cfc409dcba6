-- How a run that is unfinished is left: the digest of its job, the jobs, and why none is kept.
use Rattle.std.proofs.Common.{ℕ, List, Option, Some, None, inl, inr, ap}
use Rattle.fund_shelf.specs.Causes.{SinkView}
use Rattle.fund_outside.specs.Kept.{KeeperView}
use Rattle.fund_plan.specs.State.{PlanState}
use Rattle.command_end.specs.Names.{Sources}
use Rattle.command_end.specs.Printed.{IsPut}
use Rattle.command_end.specs.declared.status.Status.{Status}
use Rattle.command_end.specs.declared.status.Status.TheVariants as statuses
use Rattle.command_inputs.specs.Jobs.{KeepsJobs}
use Rattle.command_fund.specs.Leaving.{IsNotLeft, IsSavedAnew}
use Rattle.command_inputs.specs.Names.{Payment}
use Rattle.command_fund.specs.Stops.{StopsKeeping}
use Rattle.command_inputs.specs.Words.{IsStopped}
use Rattle.command_inputs.specs.declared.refusal.Stop.{Stop}
use Rattle.command_inputs.specs.declared.refusal.Stop.TheVariants as stops
use Rattle.command_inputs.proofs.JobLaws.{same_jobs, put_jobs}

-- ---- why nothing is kept

pub not_left : (told : Type 0) (s : Sources) (p : Payment) (job : Option (List ℕ)) (stop : Stop) (sink sink' : SinkView) (keeper keeper' : KeeperView) (result : Status) → StopsKeeping job keeper keeper' stop → IsStopped told s p stop sink sink' result → IsNotLeft told job sink sink' keeper keeper' result
not_left told s p job (stops.Read file) sink sink' keeper keeper' result h a = absurd h
not_left told s p job (stops.Refused refusal) sink sink' keeper keeper' result h a = absurd h
not_left told s p job stops.Keep sink sink' keeper keeper' result h a = inl (a.0, h.0, h.1, a.1)
not_left told s p job stops.Memory sink sink' keeper keeper' result h w = inr w

-- ---- what becomes of the jobs

-- by what was saved anew, or nothing
pub anew_jobs : (told told_jobs : Type 0) (report : List ℕ) (plan : PlanState) (job digest : Option (List ℕ)) (sink sink' : SinkView) (keeper keeper' : KeeperView) (result : Status) → IsPut told report statuses.Unfinished sink sink' result → IsSavedAnew told_jobs plan job digest keeper keeper' → told_jobs → KeepsJobs job result keeper keeper'
anew_jobs told told_jobs report plan (Some job) (Some digest) sink sink' keeper keeper' result put saved t = put_jobs told report job sink sink' keeper keeper' result put (saved t).0
anew_jobs told told_jobs report plan (Some job) None sink sink' keeper keeper' result put saved t = same_jobs (Some job) result keeper keeper' (ap (λ (k : KeeperView). k.jobs) saved)
anew_jobs told told_jobs report plan None digest sink sink' keeper keeper' result put saved t = same_jobs None result keeper keeper' (ap (λ (k : KeeperView). k.jobs) saved)
