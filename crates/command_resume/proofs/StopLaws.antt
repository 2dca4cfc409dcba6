-- What stops a job is how the command ends.
use Rattle.std.proofs.Common.{◌≡◌, ℕ, List, inl, inr, refl, sym, subst}
use Rattle.std.specs.Prelude.{◌⊎◌}
use Rattle.fund_shelf.specs.Causes.{ShelfView, SinkView}
use Rattle.fund_files.specs.Cause.{FileCause}
use Rattle.fund_files.specs.Cause as files
use Rattle.fund_outside.specs.Kept.{KeeperView}
use Rattle.fund_steps.specs.declared.fault.PlanFault.{PlanFault}
use Rattle.fund_steps.specs.declared.fault.PlanFault.TheVariants as plans
use Rattle.kept_job.specs.Refused.{IsOfJob}
use Rattle.kept_job.specs.declared.fault.KeptFault.{KeptFault}
use Rattle.kept_job.specs.declared.fault.KeptFault.TheVariants as faults
use Rattle.command_end.proofs.WholeLaws.{answered_stops}
use Rattle.command_end.specs.AnswerLines.{IsWanting}
use Rattle.command_end.specs.Lines.{GotLine, fault_line, status_of_file}
use Rattle.command_end.specs.Names.{Sources}
use Rattle.command_end.specs.Printed.{TellsWhole}
use Rattle.command_end.specs.declared.status.Status.{Status}
use Rattle.command_end.specs.declared.status.Status.TheVariants as statuses
use Rattle.command_inputs.proofs.StopLaws as fund_laws
use Rattle.command_inputs.specs.Cause.{Cause, Files, Bump, Plan, cause_of, status_of_cause, status_of_plan}
use Rattle.command_inputs.specs.Meant.{AreRefusedFor}
use Rattle.command_inputs.specs.Names.{Payment}
use Rattle.command_inputs.specs.Stops as fund_stops
use Rattle.command_inputs.specs.Words as fund_words
use Rattle.command_inputs.specs.declared.refusal.Refusal.{Refusal}
use Rattle.command_inputs.specs.declared.refusal.Stop as funds
use Rattle.command_inputs.specs.declared.refusal.Stop.TheVariants as fund_variants
use Rattle.command_resume.specs.Outcome.{AreReady, IsNotKept}
use Rattle.command_resume.specs.Statuses.{Ends}
use Rattle.command_resume.specs.Stops.{StopsFor, StopsKept}
use Rattle.command_resume.specs.Words.{IsStopped, kept_status, kept_words}
use Rattle.command_resume.specs.declared.stop.Stop.{Stop}
use Rattle.command_resume.specs.declared.stop.Stop.TheVariants as stops

-- a refusal of the files has one of two statuses
file_status : (cause : FileCause) → (status_of_file cause ≡ statuses.Input) ⊎ (status_of_file cause ≡ statuses.Limit)
file_status (files.TooLong file) = inr refl
file_status (files.BadWallet fault) = inl refl
file_status (files.BadBlocks fault) = inl refl
file_status (files.RepeatCoin coin) = inl refl
file_status files.ManyCoins = inr refl
file_status (files.BadRequest fault) = inl refl

plan_status : (fault : PlanFault) → (status_of_plan fault ≡ statuses.Input) ⊎ (status_of_plan fault ≡ statuses.Limit)
plan_status (plans.Total sum) = inl refl
plan_status (plans.NotEligible point) = inl refl
plan_status (plans.TooMany number n) = inr refl
plan_status plans.Memory = inl refl

refusal_status : (cause : Cause) → (status_of_cause cause ≡ statuses.Input) ⊎ (status_of_cause cause ≡ statuses.Limit)
refusal_status (Files cause) = file_status cause
refusal_status (Bump fault) = inl refl
refusal_status (Plan fault) = plan_status fault

module _ (told_files told told_jobs : Type 0) (s : Sources) (p : Payment) (job : List ℕ) where
  wanting_ends : (shelf shelf' : ShelfView) (sink sink' : SinkView) (keeper keeper' : KeeperView) (result : Status) → (told_files → shelf'.files ≡ shelf.files) → (told_jobs → keeper'.jobs ≡ keeper.jobs) → IsWanting told sink sink' result
      → Ends told_files told told_jobs s p job shelf shelf' sink sink' keeper keeper' result
  wanting_ends shelf shelf' sink sink' keeper keeper' result same kept w =
      subst (λ (x : Status). Ends told_files told told_jobs s p job shelf shelf' sink sink' keeper keeper' x) (sym w.0) (inl (w.1, kept, same))

  refused_ends : (refusal : Refusal) (shelf shelf' : ShelfView) (sink sink' : SinkView) (keeper keeper' : KeeperView) → (told_files → AreRefusedFor shelf.files s p (cause_of refusal)) → (told → GotLine (fault_line (fund_words.refusal_words refusal)) sink sink')
      → (status_of_cause (cause_of refusal) ≡ statuses.Input) ⊎ (status_of_cause (cause_of refusal) ≡ statuses.Limit) → Ends told_files told told_jobs s p job shelf shelf' sink sink' keeper keeper' (status_of_cause (cause_of refusal))
  refused_ends refusal shelf shelf' sink sink' keeper keeper' due line (inl e) = subst (λ (x : Status). Ends told_files told told_jobs s p job shelf shelf' sink sink' keeper keeper' x) (sym e) (refusal, e, due, line)
  refused_ends refusal shelf shelf' sink sink' keeper keeper' due line (inr e) = subst (λ (x : Status). Ends told_files told told_jobs s p job shelf shelf' sink sink' keeper keeper' x) (sym e) (inl (refusal, e, due, line))

  funding_ends : (stop : funds.Stop) (shelf shelf' : ShelfView) (sink sink' : SinkView) (keeper keeper' : KeeperView) (result : Status) → fund_stops.StopsFor told_files s p shelf shelf' stop → (told_files → shelf'.files ≡ shelf.files) → (told_jobs → keeper'.jobs ≡ keeper.jobs)
      → fund_words.IsStopped told s p stop sink sink' result → Ends told_files told told_jobs s p job shelf shelf' sink sink' keeper keeper' result
  funding_ends (fund_variants.Read file) shelf shelf' sink sink' keeper keeper' result h same kept a = subst (λ (x : Status). Ends told_files told told_jobs s p job shelf shelf' sink sink' keeper keeper' x) (sym a.0) (file, h.0, h.1, a.1)
  funding_ends (fund_variants.Refused refusal) shelf shelf' sink sink' keeper keeper' result h same kept a =
      subst (λ (x : Status). Ends told_files told told_jobs s p job shelf shelf' sink sink' keeper keeper' x) (sym a.0) (refused_ends refusal shelf shelf' sink sink' keeper keeper' h a.1 (refusal_status (cause_of refusal)))
  funding_ends fund_variants.Keep shelf shelf' sink sink' keeper keeper' result h same kept w = absurd h
  funding_ends fund_variants.Memory shelf shelf' sink sink' keeper keeper' result h same kept w = wanting_ends shelf shelf' sink sink' keeper keeper' result same kept w

  -- a fault of the job itself has one of two statuses
  own_ends : (fault : KeptFault) (shelf shelf' : ShelfView) (sink sink' : SinkView) (keeper keeper' : KeeperView) → IsOfJob fault → (told_files → told_jobs → IsNotKept shelf.files s p (keeper.jobs job) fault) × (told_files → AreReady shelf.files s p)
      → (told → GotLine (fault_line (kept_words fault)) sink sink') → Ends told_files told told_jobs s p job shelf shelf' sink sink' keeper keeper' (kept_status fault)
  own_ends faults.NoJob shelf shelf' sink sink' keeper keeper' own h line = (faults.NoJob, refl, own, h.0, line, h.1)
  own_ends (faults.Form place) shelf shelf' sink sink' keeper keeper' own h line = (faults.Form place, refl, own, h.0, line, h.1)
  own_ends (faults.JobElse a b) shelf shelf' sink sink' keeper keeper' own h line = (faults.JobElse a b, refl, own, h.0, line, h.1)
  own_ends faults.Spent shelf shelf' sink sink' keeper keeper' own h line = inr (faults.Spent, refl, own, h.0, line, h.1)
  own_ends (faults.Part n) shelf shelf' sink sink' keeper keeper' own h line = (faults.Part n, refl, own, h.0, line, h.1)
  own_ends faults.LongLog shelf shelf' sink sink' keeper keeper' own h line = inr (faults.LongLog, refl, own, h.0, line, h.1)
  own_ends (faults.Parts a b) shelf shelf' sink sink' keeper keeper' own h line = (faults.Parts a b, refl, own, h.0, line, h.1)
  own_ends (faults.Section i) shelf shelf' sink sink' keeper keeper' own h line = (faults.Section i, refl, own, h.0, line, h.1)
  own_ends faults.IllFormed shelf shelf' sink sink' keeper keeper' own h line = (faults.IllFormed, refl, own, h.0, line, h.1)
  own_ends (faults.Log i f) shelf shelf' sink sink' keeper keeper' own h line = (faults.Log i f, refl, own, h.0, line, h.1)
  own_ends faults.Failed shelf shelf' sink sink' keeper keeper' own h line = absurd own
  own_ends faults.Memory shelf shelf' sink sink' keeper keeper' own h line = absurd own

  kept_by : (fault : KeptFault) (shelf shelf' : ShelfView) (sink sink' : SinkView) (keeper keeper' : KeeperView) → StopsKept told_files told_jobs s p job shelf keeper keeper' fault → (told_files → shelf'.files ≡ shelf.files) → (told_jobs → keeper'.jobs ≡ keeper.jobs)
      → (told → GotLine (fault_line (kept_words fault)) sink sink') → Ends told_files told told_jobs s p job shelf shelf' sink sink' keeper keeper' (kept_status fault)
  unfolding kept_words
  kept_by faults.Failed shelf shelf' sink sink' keeper keeper' h same kept line = (h.0, line, h.1)
  kept_by faults.Memory shelf shelf' sink sink' keeper keeper' h same kept line = inl (line, kept, same)
  kept_by faults.NoJob shelf shelf' sink sink' keeper keeper' h same kept line = own_ends faults.NoJob shelf shelf' sink sink' keeper keeper' tt h line
  kept_by (faults.Form place) shelf shelf' sink sink' keeper keeper' h same kept line = own_ends (faults.Form place) shelf shelf' sink sink' keeper keeper' tt h line
  kept_by (faults.JobElse a b) shelf shelf' sink sink' keeper keeper' h same kept line = own_ends (faults.JobElse a b) shelf shelf' sink sink' keeper keeper' tt h line
  kept_by faults.Spent shelf shelf' sink sink' keeper keeper' h same kept line = own_ends faults.Spent shelf shelf' sink sink' keeper keeper' tt h line
  kept_by (faults.Part n) shelf shelf' sink sink' keeper keeper' h same kept line = own_ends (faults.Part n) shelf shelf' sink sink' keeper keeper' tt h line
  kept_by faults.LongLog shelf shelf' sink sink' keeper keeper' h same kept line = own_ends faults.LongLog shelf shelf' sink sink' keeper keeper' tt h line
  kept_by (faults.Parts a b) shelf shelf' sink sink' keeper keeper' h same kept line = own_ends (faults.Parts a b) shelf shelf' sink sink' keeper keeper' tt h line
  kept_by (faults.Section i) shelf shelf' sink sink' keeper keeper' h same kept line = own_ends (faults.Section i) shelf shelf' sink sink' keeper keeper' tt h line
  kept_by faults.IllFormed shelf shelf' sink sink' keeper keeper' h same kept line = own_ends faults.IllFormed shelf shelf' sink sink' keeper keeper' tt h line
  kept_by (faults.Log i f) shelf shelf' sink sink' keeper keeper' h same kept line = own_ends (faults.Log i f) shelf shelf' sink sink' keeper keeper' tt h line

  pub stop_ends : (stop : Stop) (shelf shelf' : ShelfView) (sink sink' : SinkView) (keeper keeper' : KeeperView) (result : Status) → StopsFor told_files told_jobs s p job shelf shelf' keeper keeper' stop → (told_files → shelf'.files ≡ shelf.files) → (told_jobs → keeper'.jobs ≡ keeper.jobs)
      → IsStopped told s p stop sink sink' result → Ends told_files told told_jobs s p job shelf shelf' sink sink' keeper keeper' result
  stop_ends (stops.Funding stop) shelf shelf' sink sink' keeper keeper' result h same kept w = funding_ends stop shelf shelf' sink sink' keeper keeper' result h same kept w
  stop_ends (stops.Kept fault) shelf shelf' sink sink' keeper keeper' result h same kept a =
      subst (λ (x : Status). Ends told_files told told_jobs s p job shelf shelf' sink sink' keeper keeper' x) (sym a.0) (kept_by fault shelf shelf' sink sink' keeper keeper' h same kept a.1)

-- ---- no stop is told as printed whole

kept_untold : (fault : KeptFault) → TellsWhole (kept_status fault) → ⊥
kept_untold faults.NoJob whole = whole
kept_untold (faults.Form place) whole = whole
kept_untold (faults.JobElse a b) whole = whole
kept_untold faults.Spent whole = whole
kept_untold (faults.Part n) whole = whole
kept_untold faults.LongLog whole = whole
kept_untold (faults.Parts a b) whole = whole
kept_untold (faults.Section i) whole = whole
kept_untold faults.IllFormed whole = whole
kept_untold (faults.Log i f) whole = whole
kept_untold faults.Failed whole = whole
kept_untold faults.Memory whole = whole

pub stop_untold : (told : Type 0) (s : Sources) (p : Payment) (stop : Stop) (sink sink' : SinkView) (result : Status) → IsStopped told s p stop sink sink' result → TellsWhole result → ⊥
stop_untold told s p (stops.Funding stop) sink sink' result h whole = fund_laws.stop_untold told s p stop sink sink' result h whole
stop_untold told s p (stops.Kept fault) sink sink' result h whole = answered_stops told (kept_words fault) (kept_status fault) sink sink' result (kept_untold fault) h whole
