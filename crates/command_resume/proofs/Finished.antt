-- How the writing, the saving and the printing end is how the command ends.
use Rattle.std.proofs.Common.{◌≡◌, ◌∙◌, ◌++◌, ℕ, ◌≤◌, ◌+◌, List, Option, Some, None, inl, inr, sym, ap, subst}
use Rattle.std.specs.Prelude.{◌⊎◌}
use Rattle.fund_shelf.proofs.Outside.{rose_earlier}
use Rattle.fund_shelf.specs.Causes.{Rose, ShelfView, SinkView}
use Rattle.fund_outside.specs.Kept.{KeeperView, KeptJob, SameForOthers}
use Rattle.fund_plan.specs.State.{PlanState}
use Rattle.fund_files.specs.Chain.{chain_from}
use Rattle.kept_job.proofs.SavingLaws.{longer, more_kept}
use Rattle.kept_job.specs.Kept.{IsKeptAt}
use Rattle.kept_job.specs.Saving.{IsSavedBehind}
use Rattle.command_end.specs.Names.{Sources}
use Rattle.command_end.specs.Printed.{IsEnd, IsPut, IsUnwritten, IsWithoutMemory}
use Rattle.command_end.specs.declared.status.Status.{Status}
use Rattle.command_end.specs.declared.status.Status.TheVariants as statuses
use Rattle.command_inputs.specs.Outcome.{plan_of}
use Rattle.command_inputs.specs.Jobs.{KeepsJobs}
use Rattle.command_inputs.specs.Names.{Payment}
use Rattle.command_resume.proofs.UninterruptedLaws.{told_gone}
use Rattle.command_resume.specs.Outcome.{AreReady}
use Rattle.command_resume.specs.Endings.{IsLeftBy}
use Rattle.command_resume.specs.Leaving.{HasLeft, IsNotLeft, IsSavedOn}
use Rattle.command_resume.specs.Resumed.{IsLeftOn}
use Rattle.command_resume.specs.Statuses.{Ends, EndsUnwritten, EndsWithoutMemory, IsReport}
use Rattle.command_inputs.specs.declared.funding.Left.{Left}
use Rattle.command_resume.specs.declared.resuming.LoadedJob.{LoadedJob}

-- ---- a log and a report

module _ (told_files told told_jobs : Type 0) (s : Sources) (p : Payment) (job report log : List ℕ) (shelf middle shelf' : ShelfView) (sink sink' : SinkView) (keeper keeper' : KeeperView)
    (writes : middle.writes ≡ shelf.writes) (same : told_files → middle.files ≡ shelf.files) (kept : told_jobs → keeper'.jobs ≡ keeper.jobs) (is : IsReport told_files told_jobs shelf.files s p (keeper.jobs job) report (Some log)) where
  written_not : IsUnwritten told_files told p.log log report middle shelf' sink sink' → EndsUnwritten told_files told told_jobs s p job shelf shelf' sink sink' keeper keeper'
  written_not (inl h) = (report, Some log, is, inl (subst (λ (w : List ℕ → ℕ). Rose (w p.log) (shelf'.writes p.log)) writes h.0, h.1, kept))
  written_not (inr h) = (report, Some log, is, inr (h.0, h.1, h.2, kept))

  without_memory : IsWithoutMemory told_files told p.log log report middle shelf' sink sink' → EndsWithoutMemory told_files told told_jobs s p job shelf shelf' sink sink' keeper keeper'
  without_memory (inl h) = inl (h.0, kept, λ f. h.1 f ∙ same f)
  without_memory (inr h) = inr (report, Some log, is, h.0, h.1, h.2, kept)

  pub finish_ends : (status result : Status) → IsEnd status
      → ((told_files → shelf'.files p.log ≡ log) → (told → sink'.written ≡ sink.written ++ report) → Ends told_files told told_jobs s p job shelf shelf' sink sink' keeper keeper' status)
      → (result ≡ status) ⊎ ((result ≡ statuses.WriteFault) ⊎ (result ≡ statuses.Memory))
      → (told_files → result ≡ status → IsEnd status → shelf'.files p.log ≡ log)
      → (told → result ≡ status → IsEnd status → sink'.written ≡ sink.written ++ report)
      → (result ≡ statuses.WriteFault → IsEnd status → IsUnwritten told_files told p.log log report middle shelf' sink sink')
      → (result ≡ statuses.Memory → IsEnd status → IsWithoutMemory told_files told p.log log report middle shelf' sink sink')
      → Ends told_files told told_jobs s p job shelf shelf' sink sink' keeper keeper' result
  finish_ends status result end whole (inl e) written put fault memory =
      subst (λ (x : Status). Ends told_files told told_jobs s p job shelf shelf' sink sink' keeper keeper' x) (sym e) (whole (λ f. written f e end) (λ t. put t e end))
  finish_ends status result end whole (inr (inl e)) written put fault memory =
      subst (λ (x : Status). Ends told_files told told_jobs s p job shelf shelf' sink sink' keeper keeper' x) (sym e) (written_not (fault e end))
  finish_ends status result end whole (inr (inr e)) written put fault memory =
      subst (λ (x : Status). Ends told_files told told_jobs s p job shelf shelf' sink sink' keeper keeper' x) (sym e) (without_memory (memory e end))

-- ---- a run that goes on

module _ (told_files told told_jobs : Type 0) (s : Sources) (p : Payment) (job : List ℕ) (left : Left LoadedJob) (shelf shelf' : ShelfView) (sink sink' : SinkView) (keeper middle keeper' : KeeperView) (result : Status)
    (same : told_files → shelf'.files ≡ shelf.files) (as_kept : told_jobs → middle.jobs ≡ keeper.jobs) (rises : keeper.faults ≤ middle.faults) (h : IsLeftBy told_files told_jobs shelf.files s p (keeper.jobs job) left) where
  -- what was saved behind the job as it was read was saved behind it as it was before
  saved_from : told_jobs → IsSavedOn job left middle keeper' → IsSavedOn job left keeper keeper'
  saved_from t saved = record {
    saved = subst (λ (o : Option KeptJob). IsSavedBehind left.job.digest left.plan left.job.behind.parts left.job.behind.bytes o (keeper'.jobs job)) (ap (λ (jobs : List ℕ → Option KeptJob). jobs job) (as_kept t)) saved.saved;
    others = subst (λ (jobs : List ℕ → Option KeptJob). SameForOthers job jobs keeper'.jobs) (as_kept t) saved.others;
  }

  -- where the plan that went on is saved behind what was kept, the job is left where a run without a stop would be
  left_on : told_jobs → IsSavedOn job left keeper keeper' → IsLeftOn told_files told_jobs shelf.files s p job left.report.items keeper keeper' h.unfinished
  left_on t saved =
      let u = h.unfinished in
      let behind : IsSavedBehind u.gone.digest u.state u.gone.gone.saved.parts u.gone.gone.bytes (keeper.jobs job) (keeper'.jobs job) =
      subst (λ (bytes : List ℕ). IsSavedBehind u.gone.digest u.state u.gone.gone.saved.parts bytes (keeper.jobs job) (keeper'.jobs job)) h.bytes_are
      (subst (λ (n : ℕ). IsSavedBehind u.gone.digest u.state n left.job.behind.bytes (keeper.jobs job) (keeper'.jobs job)) h.parts_are
      (subst (λ (d : List ℕ). IsSavedBehind d u.state left.job.behind.parts left.job.behind.bytes (keeper.jobs job) (keeper'.jobs job)) h.digest_is
      (subst (λ (x : PlanState). IsSavedBehind left.job.digest x left.job.behind.parts left.job.behind.bytes (keeper.jobs job) (keeper'.jobs job)) h.plan_is saved.saved))) in
      record {
        others = saved.others;
        saved = behind;
        longer = longer u.gone.digest u.state u.gone.gone.saved.parts u.gone.gone.bytes (keeper.jobs job) (keeper'.jobs job) behind;
        kept = λ f n k.
            let plan = plan_of (chain_from u.wallet u.blocks) u.asked in
            let was : IsKeptAt plan u.gone.digest n (keeper.jobs job) = subst (λ (d : List ℕ). IsKeptAt plan d n (keeper.jobs job)) (sym (u.gone.named f)) k in
            let now : IsKeptAt plan u.gone.digest (n + u.asked.tries) (keeper'.jobs job) =
            more_kept plan n u.asked.tries u.gone.digest (keeper.jobs job) (keeper'.jobs job) u.state _ (told_gone told_jobs plan u.gone.digest (keeper.jobs job) u.asked.tries u.state _ t u.gone.gone) u.gone.steps was behind in
            subst (λ (d : List ℕ). IsKeptAt plan d (n + u.asked.tries) (keeper'.jobs job)) (u.gone.named f) now;
      }

  put_ends : (told_jobs → IsLeftOn told_files told_jobs shelf.files s p job left.report.items keeper keeper' h.unfinished) → IsPut told left.report.items statuses.Unfinished sink sink' result
      → Ends told_files told told_jobs s p job shelf shelf' sink sink' keeper keeper' result
  put_ends kept (inl g) = subst (λ (x : Status). Ends told_files told told_jobs s p job shelf shelf' sink sink' keeper keeper' x) (sym g.0) (left.report.items, h.unfinished, same, g.1, kept)
  put_ends kept (inr (inl g)) = subst (λ (x : Status). Ends told_files told told_jobs s p job shelf shelf' sink sink' keeper keeper' x) (sym g.0) (left.report.items, None, h.unfinished, inr (g.1, same, g.2, kept))
  put_ends kept (inr (inr g)) = subst (λ (x : Status). Ends told_files told told_jobs s p job shelf shelf' sink sink' keeper keeper' x) (sym g.0) (inr (left.report.items, None, h.unfinished, g.1, same, g.2, kept))

  ready : told_files → AreReady shelf.files s p
  ready t =
      let u = h.unfinished in
      record { wallet = u.wallet; blocks = u.blocks; asked = u.asked; inputs = u.inputs t; plan = u.gone.rules }

  not_left_ends : IsNotLeft told sink sink' middle keeper' result → (told_jobs → keeper'.jobs ≡ middle.jobs) → Ends told_files told told_jobs s p job shelf shelf' sink sink' keeper keeper' result
  not_left_ends (inl g) as_before = subst (λ (x : Status). Ends told_files told told_jobs s p job shelf shelf' sink sink' keeper keeper' x) (sym g.0) (rose_earlier _ _ _ rises g.1, g.2, ready)
  not_left_ends (inr g) as_before = subst (λ (x : Status). Ends told_files told told_jobs s p job shelf shelf' sink sink' keeper keeper' x) (sym g.0) (inl (g.1, λ t. as_before t ∙ as_kept t, same))

  pub leave_ends : HasLeft told told_jobs job left sink sink' middle keeper' result → Ends told_files told told_jobs s p job shelf shelf' sink sink' keeper keeper' result
  leave_ends (inl g) = put_ends (λ t. left_on t (saved_from t (g.1 t))) g.0
  leave_ends (inr g) = not_left_ends g.0 g.1

-- what became of the jobs since they were read became of them since before
pub jobs_on : (job : Option (List ℕ)) (status : Status) (keeper middle keeper' : KeeperView) → middle.jobs ≡ keeper.jobs → KeepsJobs job status middle keeper' → KeepsJobs job status keeper keeper'
jobs_on job status keeper middle keeper' same h = record {
  others = λ name differs. h.others name differs ∙ ap (λ (jobs : List ℕ → Option KeptJob). jobs name) same;
  all = λ unsaved. h.all unsaved ∙ same;
}
