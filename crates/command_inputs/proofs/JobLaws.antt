-- What becomes of kept jobs.
use Rattle.std.proofs.Common.{◌≡◌, ℕ, List, Option, Some, inl, inr, sym, ap, subst}
use Rattle.fund_shelf.specs.Causes.{SinkView}
use Rattle.fund_outside.specs.Kept.{KeeperView, KeptJob, SameForOthers}
use Rattle.command_end.specs.Printed.{IsPut}
use Rattle.command_end.specs.declared.status.Status.{Status}
use Rattle.command_end.specs.declared.status.Status.TheVariants as statuses
use Rattle.command_inputs.specs.Jobs.{KeepsJobs, MaySave}

pub same_jobs : (job : Option (List ℕ)) (status : Status) (keeper keeper' : KeeperView) → keeper'.jobs ≡ keeper.jobs → KeepsJobs job status keeper keeper'
same_jobs job status keeper keeper' same = record { others = λ name differs. ap (λ (jobs : List ℕ → Option KeptJob). jobs name) same; all = λ unsaved. same }

-- where the report was put the job may have been saved
may_save : (told : Type 0) (report : List ℕ) (sink sink' : SinkView) (result : Status) → IsPut told report statuses.Unfinished sink sink' result → MaySave result
may_save told report sink sink' result (inl h) = subst MaySave (sym h.0) tt
may_save told report sink sink' result (inr (inl h)) = subst MaySave (sym h.0) tt
may_save told report sink sink' result (inr (inr h)) = subst MaySave (sym h.0) tt

pub put_jobs : (told : Type 0) (report job : List ℕ) (sink sink' : SinkView) (keeper keeper' : KeeperView) (result : Status) → IsPut told report statuses.Unfinished sink sink' result → SameForOthers job keeper.jobs keeper'.jobs → KeepsJobs (Some job) result keeper keeper'
put_jobs told report job sink sink' keeper keeper' result put same = record {
  others = λ name differs. same name (λ e. differs (ap (λ (x : List ℕ). Some x) (sym e)));
  all = λ unsaved. absurd (unsaved (may_save told report sink sink' result put));
}
